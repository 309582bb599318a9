use Rattle.cast_world.proofs.ClosingRuns as closing
use Rattle.cast_world.proofs.OrderRuns as order
use Rattle.cast_world.proofs.Same as same
use Rattle.cast_world.proofs.laws.views_agree.Goals as goal

pub returns : goal.returns
returns c = record { same_messages = same.same_messages; same_order = closing.same_order; prefix = order.orders_agree }
