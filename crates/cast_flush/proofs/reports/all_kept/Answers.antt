use Rattle.std.proofs.Common.{map}
use Rattle.cast_types.specs.Names.{entry_cmp}
use Rattle.cast_flush.specs.Reports.{all_kept}
use Rattle.cast_flush.proofs.Gathered.{gathered_more}
use Rattle.cast_flush.proofs.reports.all_kept.Goals as goal

-- the ids of one more report are added before those of the rest
pub loop-report-preserved : goal.loop-report-preserved
loop-report-preserved c =
    gathered_more entry_cmp (λ r. map (λ k. k.0) r.1.kept) c.loop-report.ids.keys c.add_kept.new.ids.keys (all_kept c.args.reports.now)
    c.args.reports.now c.loop-report.report-index c.loop-report-item.result
    c.loop-report-test.true c.loop-report-item.is c.in_ok-add_kept.ensures c.loop-report.invariant
