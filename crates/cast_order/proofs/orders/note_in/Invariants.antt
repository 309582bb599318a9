use Rattle.std.proofs.Common.{◌≡◌, ◌++◌, take, drop}
use Rattle.cast_order.specs.Hand.{note_order_sent}
use Rattle.cast_order.specs.Log.{change_in, with_hand}
use Rattle.cast_order.proofs.orders.note_in.Given as goal

-- the logs that were passed are changed, and the others will be
abbrev pub invariant-loop-log : goal.invariant-loop-log
invariant-loop-log l =
    take l.log-index l.log-items
    ++ change_in l.group (with_hand l.process (note_order_sent l.count l.last l.stable)) (drop l.log-index l.log-items)
    ≡ change_in l.group (with_hand l.process (note_order_sent l.count l.last l.stable)) l.fn.logs.items
