use Rattle.cast_world.proofs.ClosingRuns as lemma
use Rattle.cast_world.proofs.laws.starts_are_known.Goals as goal

pub returns : goal.returns
returns c = lemma.starts_are_known
