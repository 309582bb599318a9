use Rattle.std.proofs.Common.{◌≤◌, ◌<◌, ◌+◌, ◌-◌, ℕ}
use Rattle.cast_timer.specs.Rows.{IsFree}
use Rattle.cast_timer.proofs.moments.next_due.Given as goal

-- none of the domain's moments before the start was passed by
abbrev pub invariant-loop-moment : goal.invariant-loop-moment
invariant-loop-moment l = record {
  after : l.from ≤ l.start;
  within : l.start ≤ l.upto;
  free : (t : ℕ) → l.from ≤ t → t < l.start → IsFree l.moments.entries (record { due = t; domain = l.domain });
}

abbrev pub decreases-loop-moment : goal.decreases-loop-moment
decreases-loop-moment l = l.upto + 1 - l.start
