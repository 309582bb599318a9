use Rattle.std.proofs.Common.{◌≡◌, ◌++◌, take, drop}
use Rattle.cast_order.specs.Hand.{hand_in, note_order_sent}
use Rattle.cast_order.proofs.hand.note_hand.Given as goal

-- the hands that were passed are changed, and the others will be
abbrev pub invariant-loop-hand : goal.invariant-loop-hand
invariant-loop-hand l =
    take l.hand-index l.hand-items ++ hand_in l.process (note_order_sent l.count l.last l.stable) (drop l.hand-index l.hand-items)
    ≡ hand_in l.process (note_order_sent l.count l.last l.stable) l.fn.hands.items
