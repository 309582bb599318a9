use Rattle.cast_world.proofs.Properties as lemma
use Rattle.cast_world.proofs.laws.deliveries_keep_order.Goals as goal

pub returns : goal.returns
returns c = record { causal = lemma.deliver_causally; first_in_first_out = lemma.deliver_first_in_first_out }
