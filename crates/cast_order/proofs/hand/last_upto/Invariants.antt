use Rattle.std.proofs.Common.{◌≡◌, max, drop}
use Rattle.cast_order.specs.Order.{last_upto}
use Rattle.cast_order.proofs.hand.last_upto.Given as goal

-- with those that follow it is that of all
abbrev pub invariant-loop-count : goal.invariant-loop-count
invariant-loop-count l = max l.last (last_upto l.stable (drop l.count-index l.lists)) ≡ last_upto l.stable l.lists
