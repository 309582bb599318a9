use Rattle.std.proofs.Common.{◌≡◌, drop}
use Rattle.std.specs.List.{list_all}
use Rattle.cast_clock.specs.Times.{clock_of, join_clocks, clock_has_room}
use Rattle.cast_clock.proofs.clocks.all_fit.Given as goal

-- what is left of the clocks decides
abbrev pub invariant-loop-group : goal.invariant-loop-group
invariant-loop-group l =
    list_all (λ e. clock_has_room (join_clocks (clock_of l.mine e.0) e.1)) (drop l.group-index l.theirs)
    ≡ list_all (λ e. clock_has_room (join_clocks (clock_of l.mine e.0) e.1)) l.theirs
