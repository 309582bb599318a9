use Rattle.cast_world.proofs.Joins as lemma
use Rattle.cast_world.proofs.laws.views_are_decided.Goals as goal

pub returns : goal.returns
returns c = lemma.views_are_decided
