use Rattle.cast_world.proofs.Properties as lemma
use Rattle.cast_world.proofs.laws.no_duplication.Goals as goal

pub returns : goal.returns
returns c = lemma.deliver_once
