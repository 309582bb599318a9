use Rattle.std.proofs.Common.{take}
use Rattle.cast_world.specs.Worlds.{Runs}
use Rattle.cast_world.proofs.world.World.take_all.Given as goal

-- what the steps so far led to
abbrev pub invariant-loop-step : goal.invariant-loop-step
invariant-loop-step l = Runs (take l.step-index l.steps) l.fn.self l.self
