use Rattle.std.proofs.Common.{◌≡◌, ◌++◌, take, drop}
use Rattle.cast_ready.specs.Rows.{told_row}
use Rattle.cast_delay.specs.Queue.{change_row}
use Rattle.cast_delay.proofs.rows.tell_in.Given as goal

-- the rows that were passed have the fact, and the others will
abbrev pub invariant-loop-row : goal.invariant-loop-row
invariant-loop-row l =
    take l.row-index l.row-items ++ change_row l.process (told_row l.fact) (drop l.row-index l.row-items)
    ≡ change_row l.process (told_row l.fact) l.fn.rows.items
