use Rattle.std.proofs.Common.{rules}
use Rattle.cast_types.proofs.refusal.Refusal.from_number.Goals as goal

pub returns-in-9 : goal.returns-in-9
returns-in-9 c = search rules
