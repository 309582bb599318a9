use Rattle.cast_stable.proofs.Sizes.{new_size, received_size, acked_size, learnt_size, told_size, told_ended}
use Rattle.cast_stable.proofs.Sizes.{all_in_order, all_few}
use Rattle.cast_stable.proofs.laws.what_is_kept_is_bounded.Goals as goal

pub returns-clause-new : goal.returns-clause-new
returns-clause-new c = new_size

pub returns-clause-received : goal.returns-clause-received
returns-clause-received c = received_size

pub returns-clause-acked : goal.returns-clause-acked
returns-clause-acked c = acked_size

pub returns-clause-learnt : goal.returns-clause-learnt
returns-clause-learnt c = learnt_size

pub returns-clause-ended : goal.returns-clause-ended
returns-clause-ended c = told_size

pub returns-clause-none_ended : goal.returns-clause-none_ended
returns-clause-none_ended c = told_ended

pub returns-clause-order : goal.returns-clause-order
returns-clause-order c = all_in_order

pub returns-clause-all : goal.returns-clause-all
returns-clause-all c = all_few
