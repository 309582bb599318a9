use Rattle.std.proofs.Common.{◌≡◌, ◌++◌, drop}
use Rattle.cast_flush.specs.Reports.{cut_from}
use Rattle.cast_flush.proofs.reports.cut_from.Given as goal

-- the counts so far with those of the members that are left are all
abbrev pub invariant-loop-member : goal.invariant-loop-member
invariant-loop-member l = l.entries.items ++ cut_from (drop l.member-index l.members) l.reports ≡ cut_from l.members l.reports
