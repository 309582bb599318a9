use Rattle.cast_clock.proofs.Raised.{join_is_time, bump_is_time, enter_is_time}
use Rattle.cast_clock.proofs.laws.times_stay_times.Goals as goal

pub returns-clause-joined : goal.returns-clause-joined
returns-clause-joined c = join_is_time

pub returns-clause-bumped : goal.returns-clause-bumped
returns-clause-bumped c = bump_is_time

pub returns-clause-entered : goal.returns-clause-entered
returns-clause-entered c = enter_is_time
