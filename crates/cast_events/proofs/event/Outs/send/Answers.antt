use Rattle.std.proofs.Common.{rules}
use Rattle.cast_events.proofs.event.Outs.send.Goals as goal

pub returns-clause-frames : goal.returns-clause-frames
returns-clause-frames c = search rules
