use Rattle.cast_pace.proofs.Changes.{a_wait_comes_between, a_wait_comes_first}
use Rattle.cast_pace.proofs.laws.greater_where_wanted.Goals as goal

pub returns-clause-first : goal.returns-clause-first
returns-clause-first c = a_wait_comes_first

pub returns-clause-between : goal.returns-clause-between
returns-clause-between c = a_wait_comes_between
