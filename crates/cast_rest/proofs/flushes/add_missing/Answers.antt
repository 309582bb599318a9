use Rattle.std.proofs.Common.{◌≡◌, ◌≤◌, ◌<◌, ◌+◌, ◌++◌, ◌∙◌, ℕ, Bool, List, not, ◌&&◌, length, take, ap, arith}
use Rattle.cast_types.specs.Names.{Entry}
use Rattle.cast_delay.specs.Queue.{least_in}
use Rattle.cast_events.specs.Outs.{no_outs}
use Rattle.cast_domain.specs.Records.{records_of}
use Rattle.cast_domain.specs.Shared.{no_part}
use Rattle.cast_domain.specs.FlushCalls.{is_awaited_of, is_received_of}
use Rattle.cast_domain.proofs.Least.{awaited_none, awaited_some, left, first_left, left_added, left_end, take_full, few_more}
use Rattle.cast_rest.proofs.flushes.add_missing.Goals as goal

pub loop-before-init : goal.loop-before-init
loop-before-init c =
    let d = c.args.domain.now in
    let r = records_of d no_part no_outs in
    let x = c.args.group.now in
    let p = c.args.proc in
    let done : ℕ = c.least_delivered-delivered.result in
    let least : done ≡ least_in d.delay.rows x.name x.here.number p =
    c.least_delivered-delivered.ensures.value ∙ ap (λ v. least_in d.delay.rows x.name v p) c.number.ensures in
    record {
      few = c.requires;
      all =
          ap (λ (zs : List Entry). take 64 (c.args.missing.now.items ++ zs))
          (first_left (λ e. is_awaited_of r x e && not (is_received_of r x e)) p done c.args.last
          (λ k within under. ap (λ b. b && not (is_received_of r x (p, k)))
          (awaited_none x.name x.here.number p k d.delay.rows done least (omega arith) within)));
    }

pub returns-then-len-ge-MAX_PLACED : goal.returns-then-len-ge-MAX_PLACED
returns-then-len-ge-MAX_PLACED c =
    let r = records_of c.args.domain.now no_part no_outs in
    let x = c.args.group.now in
    take_full 64 c.loop-before.missing.items
    (left (λ e. is_awaited_of r x e && not (is_received_of r x e)) c.args.proc c.loop-before.before c.args.last)
    c.loop-before.invariant.few (omega arith)
    ∙ c.loop-before.invariant.all

pub loop-before-preserved : goal.loop-before-preserved
loop-before-preserved c =
    let d = c.args.domain.now in
    let r = records_of d no_part no_outs in
    let x = c.args.group.now in
    let p = c.args.proc in
    let done : ℕ = c.least_delivered-delivered.result in
    let least : done ≡ least_in d.delay.rows x.name x.here.number p =
    c.least_delivered-delivered.ensures.value ∙ ap (λ v. least_in d.delay.rows x.name v p) c.number.ensures in
    let before : ℕ = c.loop-before.before in
    let within : before < c.args.last = omega arith in
    let above : done < before + 1 = omega arith in
    let small : before + 1 ≤ 4294967295 = omega arith in
    let room : length c.loop-before.missing.items < 64 = omega arith in
    let got : Bool = is_received_of r x (p, before + 1) in
    let made = c.in_ok-add_unless_received.ensures in
    record {
      few = few_more got 64 (p, before + 1) c.loop-before.missing.items c.add_unless_received.new.missing.items room made;
      all =
          ap (take 64)
          (left_added (λ e. is_awaited_of r x e && not (is_received_of r x e))
          p before c.args.last got c.loop-before.missing.items c.add_unless_received.new.missing.items within
          (ap (λ b. b && not got) (awaited_some x.name x.here.number p (before + 1) d.delay.rows done least small above)) made)
          ∙ c.loop-before.invariant.all;
    }

pub returns : goal.returns
returns c =
    let r = records_of c.args.domain.now no_part no_outs in
    let x = c.args.group.now in
    left_end (λ e. is_awaited_of r x e && not (is_received_of r x e))
    c.args.proc c.loop-before.missing.items c.loop-before.before c.args.last c.loop-before.invariant.few c.loop-before-test.false
    ∙ c.loop-before.invariant.all
