use Rattle.std.proofs.Common.{◌≡◌, sym, subst, ◌∙◌, arith}
use Rattle.std.specs.Prelude.{IsTrue}
use Rattle.std.specs.FinMap.Entries.{is_sorted-put}
use Rattle.cast_types.specs.Names.{proc_cmp}
use Rattle.cast_types.specs.Counts.{is_counts}
use Rattle.cast_types.proofs.Orders.{proc_total}
use Rattle.cast_clock.specs.Times.{join_counts}
use Rattle.cast_clock.proofs.Entries.{as_T, from_T}
use Rattle.cast_clock.proofs.News.{counts_next, counts_done}
use Rattle.cast_clock.proofs.Valid.{is_counts-join_counts}
use Rattle.cast_clock.proofs.counts.join_counts.Goals as goal

pub loop-process-preserved : goal.loop-process-preserved
loop-process-preserved c =
    let made = c.in_ok-place.ensures in
    record {
      same = counts_next c.loop-process.joined.items c.args.theirs.now c.raise_near.new.counts.items c.loop-process.process-index _
          (omega arith) made ∙ c.loop-process.invariant.same;
      in_order =
          rw made (from_T _ (is_sorted-put proc_cmp proc_total _ _ c.loop-process.joined.items (as_T _ c.loop-process.invariant.in_order)));
    }

pub from_entries-requires : goal.from_entries-requires
from_entries-requires c =
    let all : c.loop-process.joined.items ≡ join_counts c.args.mine.now c.args.theirs.now =
    counts_done c.args.mine.now c.args.theirs.now c.loop-process.joined.items c.loop-process.process-index c.loop-process-test.false
    c.loop-process.invariant.same in
    subst (λ l. IsTrue (is_counts l)) (sym all)
    (is_counts-join_counts c.args.mine.now c.args.theirs.now c.requires.mine c.requires.theirs c.requires.room)
