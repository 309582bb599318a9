use Rattle.std.proofs.Common.{◌≡◌, ◌++◌}
use Rattle.cast_flush.proofs.sets.list_of.Given as goal

-- the ids so far and those that are left are all
abbrev pub invariant-loop-id : goal.invariant-loop-id
invariant-loop-id l = l.list.items ++ l.id-iterator ≡ l.ids.keys
