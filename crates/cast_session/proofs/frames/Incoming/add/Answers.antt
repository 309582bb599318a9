use Rattle.std.proofs.Common.{rules}
use Rattle.cast_session.proofs.frames.Incoming.add.Goals as goal

pub returns-in-Ok-More : goal.returns-in-Ok-More
returns-in-Ok-More c = search rules
