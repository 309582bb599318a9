use Rattle.cast_clock.proofs.Orders.{join_is_above, join_is_least}
use Rattle.cast_clock.proofs.laws.join_is_least.Goals as goal

pub returns-clause-above : goal.returns-clause-above
returns-clause-above c = join_is_above

pub returns-clause-least : goal.returns-clause-least
returns-clause-least c = join_is_least
