use Rattle.std.proofs.Common.{rules}
use Rattle.cast_isolation.proofs.replays.lacks_memory.Goals as goal

pub returns-in_default : goal.returns-in_default
returns-in_default c = search rules
