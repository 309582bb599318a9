use Rattle.cast_timer.proofs.Owing.{owing_owes, owing_leaves, paying_pays, paying_leaves}
use Rattle.cast_timer.proofs.laws.owed_until_paid.Goals as goal

pub returns-clause-owed : goal.returns-clause-owed
returns-clause-owed c = owing_owes

pub returns-clause-owing_leaves : goal.returns-clause-owing_leaves
returns-clause-owing_leaves c = owing_leaves

pub returns-clause-paid : goal.returns-clause-paid
returns-clause-paid c = paying_pays

pub returns-clause-paying_leaves : goal.returns-clause-paying_leaves
returns-clause-paying_leaves c = paying_leaves
