use Rattle.std.proofs.Common.{◌≡◌, ◌++◌, map}
use Rattle.std.specs.Vec.Iter.{into_iter_items}
use Rattle.cast_link.proofs.packing.add_all.Given as goal

-- those that are added, and those that are left
abbrev pub invariant-loop-datagram : goal.invariant-loop-datagram
invariant-loop-datagram l =
    l.packed.items ++ map (λ d. (l.site, d)) (into_iter_items l.datagram-iterator)
    ≡ l.fn.packed.items ++ map (λ d. (l.site, d)) l.fn.datagrams.items
