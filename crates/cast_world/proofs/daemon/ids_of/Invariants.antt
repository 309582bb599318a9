use Rattle.std.proofs.Common.{◌≡◌, ◌++◌, drop}
use Rattle.cast_world.specs.Ids.{ids_of}
use Rattle.cast_world.proofs.daemon.ids_of.Given as goal

-- what was found, and what is left
abbrev pub invariant-loop-by : goal.invariant-loop-by
invariant-loop-by l = l.ids ++ ids_of l.process (drop l.by-index l.delivered) ≡ ids_of l.process l.delivered
