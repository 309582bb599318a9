use Rattle.std.proofs.Common.{◌≡◌, ◌++◌, take, drop}
use Rattle.cast_order.specs.Log.{change_in, with_placement}
use Rattle.cast_order.proofs.orders.learn_in.Given as goal

-- the logs that were passed are changed, and the others will be
abbrev pub invariant-loop-log : goal.invariant-loop-log
invariant-loop-log l =
    take l.log-index l.log-items ++ change_in l.group (with_placement l.placement) (drop l.log-index l.log-items)
    ≡ change_in l.group (with_placement l.placement) l.fn.logs.items
