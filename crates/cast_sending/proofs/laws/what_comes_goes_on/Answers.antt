use Rattle.cast_sending.proofs.Moves.{nothing_is_made_up, others_go_on, stables_are_covered}
use Rattle.cast_sending.proofs.laws.what_comes_goes_on.Goals as goal

pub returns-clause-covered : goal.returns-clause-covered
returns-clause-covered c = stables_are_covered

pub returns-clause-others : goal.returns-clause-others
returns-clause-others c = others_go_on

pub returns-clause-made_up : goal.returns-clause-made_up
returns-clause-made_up c = nothing_is_made_up
