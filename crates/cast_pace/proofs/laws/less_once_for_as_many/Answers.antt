use Rattle.cast_pace.proofs.Changes.{as_many_come_between, as_many_come_first}
use Rattle.cast_pace.proofs.laws.less_once_for_as_many.Goals as goal

pub returns-clause-first : goal.returns-clause-first
returns-clause-first c = as_many_come_first

pub returns-clause-between : goal.returns-clause-between
returns-clause-between c = as_many_come_between
