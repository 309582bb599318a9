use Rattle.std.proofs.Common.{rules}
use Rattle.cast_ready.proofs.row.Row.tell.Goals as goal

pub returns-in-Standing : goal.returns-in-Standing
returns-in-Standing c = search rules
