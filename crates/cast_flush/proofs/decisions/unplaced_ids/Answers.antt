use Rattle.std.proofs.Common.{map}
use Rattle.std.specs.Prelude.{filter}
use Rattle.cast_types.specs.Names.{entry_cmp}
use Rattle.cast_flush.specs.Decisions.{unplaced_entries}
use Rattle.cast_flush.proofs.Gathered.{gathered_more}
use Rattle.cast_flush.proofs.decisions.unplaced_ids.Goals as goal

-- the ids of one more report are added before those of the rest
pub loop-report-preserved : goal.loop-report-preserved
loop-report-preserved c =
    gathered_more entry_cmp (λ r. map (λ k. k.0) (filter (λ k. k.1) r.1.kept)) c.loop-report.ids.keys c.add_unplaced.new.ids.keys
    (unplaced_entries c.args.reports.now) c.args.reports.now c.loop-report.report-index c.loop-report-item.result
    c.loop-report-test.true c.loop-report-item.is c.in_ok-add_unplaced.ensures c.loop-report.invariant
