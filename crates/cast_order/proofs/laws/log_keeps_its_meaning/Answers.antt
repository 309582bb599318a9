use Rattle.cast_order.proofs.Meanings.{new_fits, learn_fits, hand_fits, pass_fits, more_fits, forget_fits, oldest_rules}
use Rattle.cast_order.proofs.laws.log_keeps_its_meaning.Goals as goal

pub returns-clause-new : goal.returns-clause-new
returns-clause-new c = new_fits

pub returns-clause-learn : goal.returns-clause-learn
returns-clause-learn c = learn_fits

pub returns-clause-hand : goal.returns-clause-hand
returns-clause-hand c = hand_fits

pub returns-clause-pass : goal.returns-clause-pass
returns-clause-pass c = pass_fits

pub returns-clause-more : goal.returns-clause-more
returns-clause-more c = more_fits

pub returns-clause-forget : goal.returns-clause-forget
returns-clause-forget c = forget_fits

pub returns-clause-oldest : goal.returns-clause-oldest
returns-clause-oldest c = oldest_rules
