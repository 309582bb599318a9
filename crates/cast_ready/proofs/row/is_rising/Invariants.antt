use Rattle.std.proofs.Common.{length, ◌-◌, ◌≤◌}
use Rattle.cast_ready.proofs.Lows.{Rises}
use Rattle.cast_ready.proofs.row.is_rising.Given as goal

-- up to the place they rise
abbrev pub invariant-loop-place : goal.invariant-loop-place
invariant-loop-place l = record { least : 1 ≤ l.place; rises : Rises l.standings l.place }

abbrev pub decreases-loop-place : goal.decreases-loop-place
decreases-loop-place l = length l.standings - l.place
