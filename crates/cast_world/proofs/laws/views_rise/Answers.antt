use Rattle.cast_world.proofs.Properties as lemma
use Rattle.cast_world.proofs.laws.views_rise.Goals as goal

pub returns : goal.returns
returns c = lemma.views_rise
