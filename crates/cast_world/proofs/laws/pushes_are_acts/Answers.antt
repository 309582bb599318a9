use Rattle.cast_world.proofs.Pushes as lemma
use Rattle.cast_world.proofs.laws.pushes_are_acts.Goals as goal

pub returns : goal.returns
returns c = lemma.pushes_are_acts
