use Rattle.std.proofs.Common.{List, subst}
use Rattle.std.specs.List.{flat_map}
use Rattle.std.proofs.Math.Seq.{take_all}
use Rattle.cast_sending.specs.Frames.{Frame}
use Rattle.cast_sending.specs.Acks.{AddsAll, undelivered}
use Rattle.cast_sending.proofs.Early.{adds_more}
use Rattle.cast_sending.proofs.acks.hold_all.Goals as goal

pub loop-place-preserved : goal.loop-place-preserved
loop-place-preserved c =
    adds_more c.args.delivered.now c.args.frames.now c.loop-place.place c.index-frames-place.result c.args.acks.now.items
    c.loop-place.acks.items c.hold_one.new.acks.items c.loop-place-test.true c.index-frames-place.is c.loop-place.invariant
    c.if-not-hold_one.ensures.held

pub returns-then-not-hold_one-clause-lost : goal.returns-then-not-hold_one-clause-lost
returns-then-not-hold_one-clause-lost c = (c.loop-place.place, rw c.if-not-hold_one.ensures.lost c.loop-place.invariant)

pub returns-clause-held : goal.returns-clause-held
returns-clause-held c =
    subst (λ (l : List Frame). AddsAll c.args.acks.now.items (flat_map (undelivered c.args.delivered.now) l) c.loop-place.acks.items)
    (take_all c.loop-place.place c.args.frames.now c.loop-place-test.false) c.loop-place.invariant
