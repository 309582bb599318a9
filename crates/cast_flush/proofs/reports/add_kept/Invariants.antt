use Rattle.std.proofs.Common.{◌≡◌, map, drop}
use Rattle.cast_types.specs.Names.{entry_cmp}
use Rattle.cast_types.specs.Sets.{with_items}
use Rattle.cast_flush.proofs.reports.add_kept.Given as goal

-- the ids so far with those that are left are all
abbrev pub invariant-loop-id : goal.invariant-loop-id
invariant-loop-id l =
    with_items entry_cmp l.ids.keys (map (λ k. k.0) (drop l.id-index l.id-items))
    ≡ with_items entry_cmp l.fn.ids.keys (map (λ k. k.0) l.id-items)
