use Rattle.cast_world.proofs.Cuts as lemma
use Rattle.cast_world.proofs.laws.deliveries_were_sent.Goals as goal

pub returns : goal.returns
returns c = lemma.deliveries_were_sent
