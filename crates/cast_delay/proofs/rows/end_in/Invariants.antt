use Rattle.std.proofs.Common.{◌≡◌, ◌++◌, take, drop, map}
use Rattle.cast_ready.specs.Rows.{ended_row}
use Rattle.cast_delay.proofs.rows.end_in.Given as goal

-- the rows that were passed have forgotten it, and the others will
abbrev pub invariant-loop-row : goal.invariant-loop-row
invariant-loop-row l =
    take l.row-index l.row-items ++ map (ended_row l.group l.number) (drop l.row-index l.row-items)
    ≡ map (ended_row l.group l.number) l.fn.rows.items
