use Rattle.std.proofs.Common.{◌≡◌, ◌≤◌, ◌+◌, ◌-◌, false, cond}
use Rattle.cast_timer.specs.declared.key.Moment.{Moment}
use Rattle.cast_timer.specs.declared.key.OwedKey.{OwedKey}
use Rattle.cast_timer.specs.Rows.{IsShaped, IsFilled, is_held}
use Rattle.cast_timer.proofs.Searches.{is_past}
use Rattle.cast_timer.proofs.moments.drop_due.Given as goal

-- the moments that were looked at are taken out
abbrev pub invariant-loop-due : goal.invariant-loop-due
invariant-loop-due l = record {
  within : l.from ≤ l.now;
  shaped : IsShaped l.moments.entries;
  filled : IsFilled l.fn.moments.entries → IsFilled l.moments.entries;
  held : (p : Moment) (k : OwedKey) →
      is_held l.moments.entries p k ≡ cond (is_past l.domain l.from p) false (is_held l.fn.moments.entries p k);
}

abbrev pub decreases-loop-due : goal.decreases-loop-due
decreases-loop-due l = l.now + 1 - l.from
