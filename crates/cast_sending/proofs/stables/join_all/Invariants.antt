use Rattle.std.proofs.Common.{◌≡◌, length}
use Rattle.std.specs.Vec.Iter.{into_iter_items}
use Rattle.cast_sending.proofs.Waits.{JoinedSoFar}
use Rattle.cast_sending.proofs.stables.join_all.Given as goal

abbrev pub invariant-loop-frame : goal.invariant-loop-frame
invariant-loop-frame l = record {
  joined : JoinedSoFar l.fn.waiting.items l.fn.going.items (into_iter_items l.frame-iterator) l.going.items l.others.items l.lost;
  count : l.count ≡ length l.fn.going.items;
}
