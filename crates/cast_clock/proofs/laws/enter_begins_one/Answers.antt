use Rattle.cast_clock.proofs.Raised.{enter_begins, enter_leaves}
use Rattle.cast_clock.proofs.laws.enter_begins_one.Goals as goal

pub returns-clause-begun : goal.returns-clause-begun
returns-clause-begun c = enter_begins

pub returns-clause-others : goal.returns-clause-others
returns-clause-others c = enter_leaves
