use Rattle.std.proofs.Common.{rules}
use Rattle.cast_events.proofs.moment.Moment.reach.Goals as goal

pub returns : goal.returns
returns c = search rules
