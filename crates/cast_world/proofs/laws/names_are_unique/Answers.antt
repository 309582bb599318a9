use Rattle.cast_world.proofs.Cuts as lemma
use Rattle.cast_world.proofs.laws.names_are_unique.Goals as goal

pub returns : goal.returns
returns c = lemma.names_are_unique
