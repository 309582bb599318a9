use Rattle.std.proofs.Common.{◌≡◌, ◌++◌, map, take, drop}
use Rattle.cast_order.specs.Hand.{note_placed}
use Rattle.cast_order.proofs.hand.place_in.Given as goal

-- the hands that were passed are changed, and the others will be
abbrev pub invariant-loop-hand : goal.invariant-loop-hand
invariant-loop-hand l =
    take l.hand-index l.hand-items ++ map (note_placed l.ids) (drop l.hand-index l.hand-items) ≡ map (note_placed l.ids) l.fn.hands.items
