use Rattle.std.proofs.Common.{rules}
use Rattle.cast_ready.proofs.row.Row.is_ready.Goals as goal

pub returns-else-not-offered : goal.returns-else-not-offered
returns-else-not-offered c = search rules
