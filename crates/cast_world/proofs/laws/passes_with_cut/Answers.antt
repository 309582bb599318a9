use Rattle.cast_world.proofs.FlushRuns as lemma
use Rattle.cast_world.proofs.laws.passes_with_cut.Goals as goal

pub returns : goal.returns
returns c = lemma.passes_with_cut
