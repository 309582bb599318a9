use Rattle.std.specs.Prelude.{◌≡◌}
use Rattle.cast_tests.proofs.workers.serve_all.Given as goal

-- the worker keeps its part of the count
abbrev pub invariant-loop-asked : goal.invariant-loop-asked
invariant-loop-asked g l = l.mine.parts ≡ l.initial.mine.parts
