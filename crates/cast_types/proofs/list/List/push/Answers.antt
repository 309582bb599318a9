use Rattle.std.proofs.Common.{rules}
use Rattle.cast_types.proofs.list.List.push.Goals as goal

pub returns-clause-ok : goal.returns-clause-ok
returns-clause-ok c = search rules
