use Rattle.cast_clock.proofs.Orders.{order_is_pointwise, order_is_reflexive, order_is_transitive}
use Rattle.cast_clock.proofs.laws.order_is_pointwise.Goals as goal

pub returns-clause-pointwise : goal.returns-clause-pointwise
returns-clause-pointwise c = order_is_pointwise

pub returns-clause-reflexive : goal.returns-clause-reflexive
returns-clause-reflexive c = order_is_reflexive

pub returns-clause-transitive : goal.returns-clause-transitive
returns-clause-transitive c = order_is_transitive
