use Rattle.std.proofs.Common.{length}
use Rattle.cast_link.proofs.Packs.{CarriesOn}
use Rattle.cast_link.proofs.packing.datagrams_with.Given as goal

abbrev pub invariant-loop-rest : goal.invariant-loop-rest
invariant-loop-rest l = CarriesOn l.most l.datagrams.items l.rest l.fn.frames

abbrev pub decreases-loop-rest : goal.decreases-loop-rest
decreases-loop-rest l = length l.rest
