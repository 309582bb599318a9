use Rattle.std.proofs.Common.{rules}
use Rattle.cast_ready.proofs.row.Row.deliver.Goals as goal

pub returns-in-Ok : goal.returns-in-Ok
returns-in-Ok c = search rules

pub returns-in-Err-TooMany : goal.returns-in-Err-TooMany
returns-in-Err-TooMany c = search rules
