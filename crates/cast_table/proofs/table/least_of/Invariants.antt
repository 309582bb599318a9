use Rattle.std.proofs.Common.{take}
use Rattle.cast_table.specs.Tables.{IsLeastOf}
use Rattle.cast_table.proofs.table.least_of.Given as goal

-- the least of the numbers so far
abbrev pub invariant-loop-number : goal.invariant-loop-number
invariant-loop-number l = IsLeastOf l.least (take l.number-index l.numbers)
