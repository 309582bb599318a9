use Rattle.std.proofs.Common.{◌≡◌, ◌++◌, take, drop}
use Rattle.cast_order.specs.Hand.{hand_in, hand_over}
use Rattle.cast_order.proofs.hand.hand_over_in.Given as goal

-- the hands that were passed are changed, and the others will be
abbrev pub invariant-loop-hand : goal.invariant-loop-hand
invariant-loop-hand l =
    take l.hand-index l.hand-items ++ hand_in l.process hand_over (drop l.hand-index l.hand-items)
    ≡ hand_in l.process hand_over l.fn.hands.items
