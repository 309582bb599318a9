use Rattle.cast_sending.proofs.Passing.{PassedSoFar}
use Rattle.cast_sending.proofs.silence.keep_passing.Given as goal

abbrev pub invariant-loop-place : goal.invariant-loop-place
invariant-loop-place l = PassedSoFar l.fn.sites.items l.fn.frames.items l.sites.items l.frames.items l.kept l.place
