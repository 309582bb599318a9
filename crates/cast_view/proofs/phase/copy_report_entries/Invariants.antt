use Rattle.std.proofs.Common.{◌≡◌, take}
use Rattle.cast_view.proofs.phase.copy_report_entries.Given as goal

-- those so far
abbrev pub invariant-loop-site : goal.invariant-loop-site
invariant-loop-site l = l.copied.items ≡ take l.site-index l.reports
