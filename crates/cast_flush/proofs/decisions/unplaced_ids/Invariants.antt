use Rattle.std.proofs.Common.{◌≡◌, map, filter, drop}
use Rattle.std.specs.List.{flat_map}
use Rattle.cast_types.specs.Names.{entry_cmp}
use Rattle.cast_types.specs.Sets.{with_items}
use Rattle.cast_flush.specs.Decisions.{unplaced_entries}
use Rattle.cast_flush.proofs.decisions.unplaced_ids.Given as goal

-- the ids so far with those of the reports that are left are all
abbrev pub invariant-loop-report : goal.invariant-loop-report
invariant-loop-report l =
    with_items entry_cmp l.ids.keys (flat_map (λ r. map (λ k. k.0) (filter (λ k. k.1) r.1.kept)) (drop l.report-index l.reports))
    ≡ unplaced_entries l.reports
