use Rattle.std.proofs.Common.{◌≡◌, ◌≤◌, ◌-◌, ◌++◌, length, take, drop}
use Rattle.std.specs.FinMap.Entries.{put}
use Rattle.cast_types.proofs.sorted.put.Given as goal

-- the entry goes behind those that were passed
abbrev pub invariant-loop-at : goal.invariant-loop-at
invariant-loop-at g l = record {
  same : l.entries.items ≡ l.fn.entries.items;
  in_range : l.at ≤ length l.entries.items;
  behind : take l.at l.entries.items ++ put g.K.Ord.cmp l.key l.value (drop l.at l.entries.items)
      ≡ put g.K.Ord.cmp l.key l.value l.entries.items;
}

abbrev pub decreases-loop-at : goal.decreases-loop-at
decreases-loop-at g l = length l.entries.items - l.at
