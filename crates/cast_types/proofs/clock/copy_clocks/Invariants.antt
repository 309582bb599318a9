use Rattle.std.proofs.Common.{◌≡◌, take}
use Rattle.cast_types.proofs.clock.copy_clocks.Given as goal

-- the clocks so far
abbrev pub invariant-loop-group : goal.invariant-loop-group
invariant-loop-group l = l.copied.items ≡ take l.group-index l.clocks
