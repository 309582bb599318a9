use Rattle.std.proofs.Common.{◌≡◌, ◌+◌, drop, not}
use Rattle.std.specs.Prelude.{is_some}
use Rattle.std.specs.List.{count_by}
use Rattle.std.specs.FinMap.Entries.{find}
use Rattle.cast_types.specs.Names.{proc_cmp}
use Rattle.cast_clock.proofs.counts.lacking_count.Given as goal

-- those so far and those that are left are all
abbrev pub invariant-loop-process : goal.invariant-loop-process
invariant-loop-process l =
    l.lacking + count_by (λ e. not (is_some (find proc_cmp e.0 l.mine))) (drop l.process-index l.theirs)
    ≡ count_by (λ e. not (is_some (find proc_cmp e.0 l.mine))) l.theirs
