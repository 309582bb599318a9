use Rattle.std.proofs.Common.{◌+◌, List, subst, arith}
use Rattle.std.proofs.Math.Seq.{take_all}
use Rattle.cast_sending.specs.Acks.{Delivery, Released}
use Rattle.cast_sending.proofs.Early.{none_released, one_lost, one_sent, upto_more}
use Rattle.cast_sending.proofs.acks.release_all.Goals as goal

pub loop-place-preserved-then-not-release_one : goal.loop-place-preserved-then-not-release_one
loop-place-preserved-then-not-release_one c =
    let it : Delivery = c.delivery_at.result in
    record {
      served = subst (λ (l : List Delivery). Released c.args.acks.now.items c.args.frames.now.items l c.release_one.new.frames.items
          c.release_one.new.acks.items c.loop-place.lost)
          (upto_more c.args.delivered.now c.loop-place.place it c.loop-place-test.true c.delivery_at.ensures)
          (one_sent it c.loop-place.invariant.served c.if-not-release_one.ensures);
      few = omega (arith, c.loop-place.invariant.few);
    }

pub loop-place-preserved : goal.loop-place-preserved
loop-place-preserved c =
    let it : Delivery = c.delivery_at.result in
    record {
      served = subst (λ (l : List Delivery). Released c.args.acks.now.items c.args.frames.now.items l c.release_one.new.frames.items
          c.release_one.new.acks.items (c.loop-place.lost + 1))
          (upto_more c.args.delivered.now c.loop-place.place it c.loop-place-test.true c.delivery_at.ensures)
          (one_lost it c.loop-place.invariant.served c.if-not-release_one.ensures);
      few = omega (arith, c.loop-place.invariant.few);
    }

pub loop-place-init : goal.loop-place-init
loop-place-init c = record { served = none_released c.args.acks.now.items c.args.frames.now.items; few = omega arith }

pub returns : goal.returns
returns c =
    subst (λ (l : List Delivery). Released c.args.acks.now.items c.args.frames.now.items l c.loop-place.frames.items
    c.loop-place.acks.items c.loop-place.lost)
    (take_all c.loop-place.place c.args.delivered.now c.loop-place-test.false) c.loop-place.invariant.served
