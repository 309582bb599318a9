use Rattle.std.proofs.Common.{◌≡◌, ◌<◌, get_or, length, take, ap, subst, arith}
use Rattle.std.specs.List.{All}
use Rattle.std.proofs.lemmas.Bool.{ltb-true}
use Rattle.std.proofs.lemmas.List.{take_all}
use Rattle.cast_types.specs.Names.{Entry}
use Rattle.cast_delay.specs.Floors.{IsBelow}
use Rattle.cast_delay.proofs.Floors.{one_more, still_below}
use Rattle.cast_delay.proofs.floor.holds.Goals as goal
use Rattle.cast_delay.proofs.floor.holds.Goals.{then-kept-count+else-tries-eq0+else-not-raise, else-kept-count}

pub loop-process-preserved : goal.loop-process-preserved
loop-process-preserved c =
    let i = c.loop-process.process-index in
    let g = c.args.group in
    let view = c.args.clock.now.view in
    let items = c.entries-process-items.result.now in
    let same : items ≡ c.args.clock.now.counts = c.entries-process-items.ensures.value in
    let none : Entry = (record { site = record { 0 = 0 }; serial = 0 }, 0) in
    let e : Entry = get_or items i none in
    let some : 0 < e.1 = omega (arith, c.if-count-eq0.false) in
    elim c.if-kept-count.branch [
      | then-kept-count+else-tries-eq0+else-not-raise w ↦
          let new = w.raise.new.counts in
          let counts : c.if-kept-count.counts ≡ new = w.counts-is in
          record {
            under = rw counts w.raise.ensures.under;
            rises = λ t. rw counts (omega (arith, c.loop-process.invariant.rises t, w.raise.ensures.rises t));
            each = rw counts
                (one_more new g view items c.args.clock.now.counts i none same c.loop-process-test.true
                (still_below c.loop-process.counts new g view w.raise.ensures.rises (take i c.args.clock.now.counts)
                c.loop-process.invariant.each)
                (some, w.raise.ensures.raised w.if-not-raise.false));
          }
      | else-kept-count w ↦
          let old = c.loop-process.counts in
          let counts : c.if-kept-count.counts ≡ old = w.counts-is in
          record {
            under = rw counts c.loop-process.invariant.under;
            rises = λ t. rw counts (c.loop-process.invariant.rises t);
            each = rw counts
                (one_more old g view items c.args.clock.now.counts i none same c.loop-process-test.true c.loop-process.invariant.each
                (some, omega (arith, w.if-kept-count.false, c.near-kept.ensures)));
          }
    ]

pub returns-clause-within : goal.returns-clause-within
returns-clause-within c = λ some.
    let counts = c.args.clock.now.counts in
    let size = ap length c.entries.ensures.value in
    let all = ap length c.entries-process-items.ensures.value in
    record {
      some = omega (arith, ltb-true 0 (length c.entries.result.now) some, size);
      each = subst (All (IsBelow c.loop-process.counts c.args.group c.args.clock.now.view))
          (take_all c.loop-process.process-index counts (omega (arith, c.loop-process-test.false, all))) c.loop-process.invariant.each;
    }
