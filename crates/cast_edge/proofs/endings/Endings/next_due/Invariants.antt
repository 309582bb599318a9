use Rattle.std.proofs.Common.{◌≡◌, drop}
use Rattle.cast_edge.specs.Endings.{next_due}
use Rattle.cast_edge.proofs.endings.Endings.next_due.Given as goal

-- none as far as the loop has come is to be handed in
abbrev pub invariant-loop-ending : goal.invariant-loop-ending
invariant-loop-ending l = next_due (drop l.ending-index l.ending-items) ≡ next_due l.ending-items
