use Rattle.std.proofs.Common.{List, ap}
use Rattle.cast_timer.specs.Rows.{Row, owed_in}
use Rattle.cast_timer.proofs.timers.Timers.new.Goals as goal

pub returns : goal.returns
unfolding owed_in
returns c d = ap (λ (rows : List Row). owed_in rows d) c.new.ensures.empty
