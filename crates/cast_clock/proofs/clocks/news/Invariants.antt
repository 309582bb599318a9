use Rattle.std.proofs.Common.{◌≡◌, ◌++◌, true, drop}
use Rattle.std.specs.List.{list_all}
use Rattle.cast_types.specs.Counts.{is_counts}
use Rattle.cast_clock.specs.Times.{clock_of, join_clocks, clock_has_room}
use Rattle.cast_clock.specs.News.{news}
use Rattle.cast_clock.proofs.clocks.news.Given as goal

-- what is new so far with what is new of the clocks that are left is all, and what is left decides whether there is room
abbrev pub invariant-loop-group : goal.invariant-loop-group
invariant-loop-group l = record {
  same : l.news.items ++ news l.mine (drop l.group-index l.theirs) ≡ news l.mine l.theirs;
  valid : list_all (λ e. is_counts e.1.counts) l.news.items ≡ true;
  room :
      list_all (λ e. clock_has_room (join_clocks (clock_of l.mine e.0) e.1)) (drop l.group-index l.theirs)
      ≡ list_all (λ e. clock_has_room (join_clocks (clock_of l.mine e.0) e.1)) l.theirs;
}
