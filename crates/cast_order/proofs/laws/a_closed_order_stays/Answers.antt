use Rattle.cast_order.proofs.Closed.{close_fits, closed_learns, closed_pass, closed_more, closed_hand, closed_next}
use Rattle.cast_order.proofs.laws.a_closed_order_stays.Goals as goal

pub returns-clause-close : goal.returns-clause-close
returns-clause-close c = close_fits

pub returns-clause-learn : goal.returns-clause-learn
returns-clause-learn c = closed_learns

pub returns-clause-pass : goal.returns-clause-pass
returns-clause-pass c = closed_pass

pub returns-clause-more : goal.returns-clause-more
returns-clause-more c = closed_more

pub returns-clause-hand : goal.returns-clause-hand
returns-clause-hand c = closed_hand

pub returns-clause-next : goal.returns-clause-next
returns-clause-next c = closed_next
