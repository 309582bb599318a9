use Rattle.std.specs.Vec.Iter.{into_iter_items}
use Rattle.cast_sending.proofs.Waits.{HeldSoFar}
use Rattle.cast_sending.proofs.stables.hold_all.Given as goal

abbrev pub invariant-loop-frame : goal.invariant-loop-frame
invariant-loop-frame l =
    HeldSoFar l.fn.waiting.items l.fn.frames.items (into_iter_items l.frame-iterator) l.others.items l.waiting.items l.lost
