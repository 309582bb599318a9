use Rattle.std.proofs.Common.{◌≡◌, true, drop}
use Rattle.std.specs.List.{list_all}
use Rattle.cast_types.specs.Counts.{is_counts}
use Rattle.cast_step.proofs.frames.promised_by_counts.Given as goal

-- what is promised of the clocks that are left is promised of all
abbrev pub invariant-loop-clock : goal.invariant-loop-clock
invariant-loop-clock l =
    list_all (λ c. is_counts c.1.counts) (drop l.clock-index l.clocks) ≡ true → list_all (λ c. is_counts c.1.counts) l.clocks ≡ true
