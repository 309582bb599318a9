use Rattle.cast_pen.proofs.Takes.{no_push_is_left, holder_goes_on, missed_is_wanted}
use Rattle.cast_pen.proofs.laws.no_push_is_left.Goals as goal

pub returns-clause-left : goal.returns-clause-left
returns-clause-left c = no_push_is_left

pub returns-clause-goes_on : goal.returns-clause-goes_on
returns-clause-goes_on c = holder_goes_on

pub returns-clause-missed : goal.returns-clause-missed
returns-clause-missed c = missed_is_wanted
