use Rattle.cast_world.proofs.SelfDelivery as lemma
use Rattle.cast_world.proofs.laws.self_delivery.Goals as goal

pub returns : goal.returns
returns c = lemma.deliver_own
