use Rattle.std.proofs.Common.{◌≡◌, map, filter, drop}
use Rattle.cast_types.specs.Names.{entry_cmp}
use Rattle.cast_types.specs.Sets.{with_items}
use Rattle.cast_flush.proofs.decisions.add_unplaced.Given as goal

-- the ids so far with the marked ones that are left are all
abbrev pub invariant-loop-id : goal.invariant-loop-id
invariant-loop-id l =
    with_items entry_cmp l.ids.keys (map (λ k. k.0) (filter (λ k. k.1) (drop l.id-index l.id-items)))
    ≡ with_items entry_cmp l.fn.ids.keys (map (λ k. k.0) (filter (λ k. k.1) l.id-items))
