use Rattle.std.proofs.Common.{◌+◌, ◌≤◌, length}
use Rattle.cast_link.proofs.Packs.{PacksOn}
use Rattle.cast_link.proofs.packing.pack.Given as goal

abbrev pub invariant-loop-alloc : goal.invariant-loop-alloc
invariant-loop-alloc l = record {
  packed : PacksOn l.most l.packed.items l.rest.items l.fn.frames.items;
  few : length l.packed.items + length l.rest.items ≤ length l.fn.frames.items;
}

abbrev pub decreases-loop-alloc : goal.decreases-loop-alloc
decreases-loop-alloc l = length l.rest.items
