use Rattle.std.proofs.Common.{rules}
use Rattle.cast_clock.proofs.clocks.join_clock.Goals as goal

pub join_counts-requires-clause-room : goal.join_counts-requires-clause-room
join_counts-requires-clause-room c = search rules
