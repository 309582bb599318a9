use Rattle.std.proofs.Common.{◌≡◌, ◌≤◌, ◌-◌, ◌++◌, length, take, drop}
use Rattle.cast_types.specs.Sets.{with_item}
use Rattle.cast_types.proofs.sorted.insert.Given as goal

-- the item goes behind those that were passed
abbrev pub invariant-loop-at : goal.invariant-loop-at
invariant-loop-at g l = record {
  same : l.items.items ≡ l.fn.items.items;
  in_range : l.at ≤ length l.items.items;
  behind : take l.at l.items.items ++ with_item g.T.Ord.cmp l.item (drop l.at l.items.items) ≡ with_item g.T.Ord.cmp l.item l.items.items;
}

abbrev pub decreases-loop-at : goal.decreases-loop-at
decreases-loop-at g l = length l.items.items - l.at
