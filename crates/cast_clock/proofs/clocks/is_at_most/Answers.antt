use Rattle.std.proofs.Common.{rules}
use Rattle.cast_clock.proofs.clocks.is_at_most.Goals as goal

pub returns-then-clock-view-2 : goal.returns-then-clock-view-2
returns-then-clock-view-2 c = search rules
