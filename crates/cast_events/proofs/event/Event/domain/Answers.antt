use Rattle.std.proofs.Common.{rules}
use Rattle.cast_events.proofs.event.Event.domain.Goals as goal

pub returns-in-Frame : goal.returns-in-Frame
returns-in-Frame c = search rules
