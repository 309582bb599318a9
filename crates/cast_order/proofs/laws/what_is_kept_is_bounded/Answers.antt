use Rattle.cast_order.proofs.Sizes.{new_size, learnt_size, few_told, closed_size, forgot_size}
use Rattle.cast_order.proofs.laws.what_is_kept_is_bounded.Goals as goal

pub returns-clause-new : goal.returns-clause-new
returns-clause-new c = new_size

pub returns-clause-learnt : goal.returns-clause-learnt
returns-clause-learnt c = learnt_size

pub returns-clause-few : goal.returns-clause-few
returns-clause-few c = few_told

pub returns-clause-closed : goal.returns-clause-closed
returns-clause-closed c = closed_size

pub returns-clause-forgot : goal.returns-clause-forgot
returns-clause-forgot c = forgot_size
