use Rattle.std.proofs.Common.{◌≡◌, ◌++◌, take, drop}
use Rattle.cast_types.specs.Counts.{is_within}
use Rattle.cast_order.specs.Log.{change_in, closed_by}
use Rattle.cast_order.proofs.orders.close_in.Given as goal

-- the logs that were passed are changed, and the others will be
abbrev pub invariant-loop-log : goal.invariant-loop-log
invariant-loop-log l =
    take l.log-index l.log-items ++ change_in l.group (closed_by (is_within l.cut) l.tail.start l.tail.ids) (drop l.log-index l.log-items)
    ≡ change_in l.group (closed_by (is_within l.cut) l.tail.start l.tail.ids) l.fn.logs.items
