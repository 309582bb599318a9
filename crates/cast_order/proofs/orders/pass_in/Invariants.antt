use Rattle.std.proofs.Common.{◌≡◌, ◌++◌, take, drop}
use Rattle.cast_order.specs.Log.{change_in, pass_ids}
use Rattle.cast_order.proofs.orders.pass_in.Given as goal

-- the logs that were passed are changed, and the others will be
abbrev pub invariant-loop-log : goal.invariant-loop-log
invariant-loop-log l =
    take l.log-index l.log-items ++ change_in l.group (pass_ids l.process l.count) (drop l.log-index l.log-items)
    ≡ change_in l.group (pass_ids l.process l.count) l.fn.logs.items
