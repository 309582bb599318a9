use Rattle.cast_order.proofs.Told.{order_in_words}
use Rattle.cast_order.proofs.laws.order_is_the_rule_in_words.Goals as goal

pub returns : goal.returns
returns c = order_in_words
