use Rattle.std.proofs.Common.{◌≡◌, ◌≤◌, ◌<◌, ℕ, length, get_or, false}
use Rattle.cast_ready.specs.declared.row.Row.{Row}
use Rattle.cast_ready.specs.Rows.{awaits_row}
use Rattle.cast_delay.proofs.rows.awaited_at_busy.Given as goal

-- none of those that were asked awaits it
abbrev pub invariant-loop-left : goal.invariant-loop-left
invariant-loop-left l = record {
  within : l.left ≤ length l.busy;
  none : (j : ℕ) (row : Row) → l.left ≤ j → j < length l.busy → awaits_row (get_or l.rows (get_or l.busy j 0) row) l.id ≡ false;
}

abbrev pub decreases-loop-left : goal.decreases-loop-left
decreases-loop-left l = l.left
