use Rattle.std.proofs.Common.{◌≡◌, ◌++◌}
use Rattle.cast_timer.proofs.moments.add_keys.Given as goal

-- what is still to be looked at is still to be added
abbrev pub invariant-loop-key : goal.invariant-loop-key
invariant-loop-key l = l.keys.items ++ l.key-iterator ≡ l.fn.keys.items ++ l.initial.key-iterator
