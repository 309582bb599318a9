use Rattle.cast_world.proofs.Joins as lemma
use Rattle.cast_world.proofs.laws.joins_go_forward.Goals as goal

pub returns : goal.returns
returns c = lemma.joins_go_forward
