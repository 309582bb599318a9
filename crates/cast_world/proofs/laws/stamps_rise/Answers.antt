use Rattle.cast_world.proofs.Cuts as lemma
use Rattle.cast_world.proofs.laws.stamps_rise.Goals as goal

pub returns : goal.returns
returns c = record { at_most = lemma.stamps_at_most; strictly = lemma.stamps_rise }
