use Rattle.std.proofs.Common.{◌≡◌, ◌++◌, take, drop}
use Rattle.cast_ready.specs.Rows.{delivered_row}
use Rattle.cast_delay.specs.Queue.{change_row}
use Rattle.cast_delay.proofs.rows.deliver_each.Given as goal

-- the rows that were passed have the delivery, and the others will
abbrev pub invariant-loop-row : goal.invariant-loop-row
invariant-loop-row l =
    take l.row-index l.row-items ++ change_row l.process (delivered_row l.message.id l.message.times) (drop l.row-index l.row-items)
    ≡ change_row l.process (delivered_row l.message.id l.message.times) l.fn.rows.items
