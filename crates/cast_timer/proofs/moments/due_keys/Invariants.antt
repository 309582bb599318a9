use Rattle.std.proofs.Common.{◌≡◌, ◌≤◌, ◌+◌, ◌-◌, ◌++◌}
use Rattle.cast_timer.specs.Rows.{owed_in}
use Rattle.cast_timer.specs.Owed.{due_at}
use Rattle.cast_timer.proofs.Searches.{keys_between}
use Rattle.cast_timer.proofs.moments.due_keys.Given as goal

-- the keys of the moments that are still to be looked at are still to be given
abbrev pub invariant-loop-due : goal.invariant-loop-due
invariant-loop-due l = record {
  within : l.from ≤ l.now;
  given : l.keys.items ++ keys_between l.from l.now (owed_in l.moments.entries l.domain)
      ≡ due_at l.now (owed_in l.moments.entries l.domain);
}

abbrev pub decreases-loop-due : goal.decreases-loop-due
decreases-loop-due l = l.now + 1 - l.from
