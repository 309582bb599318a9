use Rattle.std.proofs.Common.{◌≡◌, take}
use Rattle.cast_order.proofs.orders.copy_logs.Given as goal

-- those so far
abbrev pub invariant-loop-log : goal.invariant-loop-log
invariant-loop-log l = l.copied.items ≡ take l.log-index l.logs
