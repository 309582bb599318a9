use Rattle.std.proofs.Common.{rules}
use Rattle.cast_table.proofs.table.Table.apply.Goals as goal

pub returns-in-None-clause-applied : goal.returns-in-None-clause-applied
returns-in-None-clause-applied c = search rules
