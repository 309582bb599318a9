use Rattle.std.proofs.Common.{◌≡◌, take}
use Rattle.cast_order.proofs.hand.copy_hands.Given as goal

-- those so far
abbrev pub invariant-loop-hand : goal.invariant-loop-hand
invariant-loop-hand l = l.copied.items ≡ take l.hand-index l.hands
