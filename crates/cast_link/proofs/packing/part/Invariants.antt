use Rattle.std.proofs.Common.{◌≡◌, ◌++◌, filter, not}
use Rattle.std.specs.Vec.Iter.{into_iter_items}
use Rattle.cast_types.specs.Names.{site_eq}
use Rattle.cast_link.specs.Packing.{to_site}
use Rattle.cast_link.proofs.packing.part.Given as goal

-- those that are parted, and those that are left
abbrev pub invariant-loop-to : goal.invariant-loop-to
invariant-loop-to l = record {
  own : l.own.items ++ to_site l.site (into_iter_items l.to-iterator) ≡ to_site l.site l.fn.frames.items;
  others : l.others.items ++ filter (λ f. not (site_eq f.0 l.site)) (into_iter_items l.to-iterator)
      ≡ filter (λ f. not (site_eq f.0 l.site)) l.fn.frames.items;
}
