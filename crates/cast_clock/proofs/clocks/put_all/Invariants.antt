use Rattle.std.proofs.Common.{◌≡◌, ◌+◌, ◌≤◌, true, length, vec_len}
use Rattle.std.specs.Prelude.{vec_capacity}
use Rattle.std.specs.Vec.Iter.{into_iter_items}
use Rattle.std.specs.FinMap.Entries.{is_sorted}
use Rattle.cast_types.specs.Names.{group_cmp}
use Rattle.cast_clock.specs.News.{put_all}
use Rattle.cast_clock.proofs.clocks.put_all.Given as goal

-- what is left leads to the end, there is room for it, and the clocks rise
abbrev pub invariant-loop-group : goal.invariant-loop-group
invariant-loop-group l = record {
  same : put_all (into_iter_items l.group-iterator) l.clocks.items ≡ put_all l.fn.news.items l.fn.clocks.items;
  room : vec_len l.clocks + length (into_iter_items l.group-iterator) ≤ vec_capacity l.clocks;
  in_order : is_sorted group_cmp l.clocks.items ≡ true;
}
