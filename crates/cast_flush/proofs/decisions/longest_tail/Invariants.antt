use Rattle.std.proofs.Common.{◌≡◌, drop}
use Rattle.std.specs.Prelude.{nat_lt, if◌then◌else◌, unwrap_or}
use Rattle.std.specs.List.{fold}
use Rattle.std.specs.Option.{option_copied}
use Rattle.cast_flush.specs.Decisions.{end_of, no_stretch, longest}
use Rattle.cast_flush.proofs.decisions.longest_tail.Given as goal

-- the longest so far, whose end is known, with the reports that are left gives the longest of all
abbrev pub invariant-loop-report : goal.invariant-loop-report
invariant-loop-report l =
    (fold (λ t r. if nat_lt (end_of t) (end_of r.1.tail) then r.1.tail else t) (unwrap_or (option_copied l.longest) no_stretch)
    (drop l.report-index l.reports)
    ≡ longest l.reports)
    × (l.farthest ≡ end_of (unwrap_or (option_copied l.longest) no_stretch))
