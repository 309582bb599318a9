use Rattle.std.proofs.Common.{length}
use Rattle.cast_link.proofs.Bundles.{HasSplit, LeadsTo}
use Rattle.cast_link.proofs.bundle.split.Given as goal

abbrev pub invariant-loop-rest : goal.invariant-loop-rest
invariant-loop-rest l = HasSplit l.fn.bytes l.frames l.rest × LeadsTo l.fn.bytes l.rest

abbrev pub decreases-loop-rest : goal.decreases-loop-rest
decreases-loop-rest l = length l.rest
