use Rattle.std.proofs.Common.{◌≡◌, ◌++◌, drop}
use Rattle.std.specs.List.{filter_map}
use Rattle.cast_flush.specs.Reports.{want_of}
use Rattle.cast_flush.proofs.reports.wants_of.Given as goal

-- the wants so far with those of the ids that are left are all
abbrev pub invariant-loop-id : goal.invariant-loop-id
invariant-loop-id l =
    l.wants.items ++ filter_map (want_of l.reports) (drop l.id-index l.id-items) ≡ filter_map (want_of l.reports) l.id-items
