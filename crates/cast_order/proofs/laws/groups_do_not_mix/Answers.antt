use Rattle.cast_order.proofs.Logs.{log_of_change, log_of_forget_first, log_of_forget}
use Rattle.cast_order.proofs.laws.groups_do_not_mix.Goals as goal

pub returns-clause-change : goal.returns-clause-change
returns-clause-change c = log_of_change

pub returns-clause-forget_first : goal.returns-clause-forget_first
returns-clause-forget_first c = log_of_forget_first

pub returns-clause-forget : goal.returns-clause-forget
returns-clause-forget c = log_of_forget
