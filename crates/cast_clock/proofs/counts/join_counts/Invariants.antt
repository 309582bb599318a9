use Rattle.std.proofs.Common.{◌≡◌, true, drop}
use Rattle.std.specs.FinMap.Entries.{is_sorted}
use Rattle.cast_types.specs.Names.{proc_cmp}
use Rattle.cast_clock.specs.Times.{join_counts}
use Rattle.cast_clock.proofs.counts.join_counts.Given as goal

-- what is left leads to the join, and the counts so far rise
abbrev pub invariant-loop-process : goal.invariant-loop-process
invariant-loop-process l = record {
  same : join_counts l.joined.items (drop l.process-index l.theirs) ≡ join_counts l.mine l.theirs;
  in_order : is_sorted proc_cmp l.joined.items ≡ true;
}
