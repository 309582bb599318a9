use Rattle.cast_world.proofs.ListsAreActs as listed
use Rattle.cast_world.proofs.Runs as lemma
use Rattle.cast_world.proofs.laws.causal_delivery.Goals as goal

pub returns : goal.returns
returns c = record { acts = lemma.causal_delivery; listed = listed.listed_in_order }
