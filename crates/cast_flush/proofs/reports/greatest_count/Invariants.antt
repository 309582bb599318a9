use Rattle.std.proofs.Common.{◌≡◌, drop}
use Rattle.std.specs.Prelude.{max}
use Rattle.std.specs.List.{fold}
use Rattle.cast_types.specs.Counts.{count_of}
use Rattle.cast_flush.specs.Reports.{greatest_count}
use Rattle.cast_flush.proofs.reports.greatest_count.Given as goal

-- the greatest so far with the reports that are left gives the greatest of all
abbrev pub invariant-loop-report : goal.invariant-loop-report
invariant-loop-report l =
    fold (λ n r. max n (count_of r.1.counts l.process)) l.greatest (drop l.report-index l.reports)
    ≡ greatest_count l.reports l.process
