use Rattle.std.proofs.Common.{◌≡◌, length}
use Rattle.cast_rules.specs.Rules.Release as release
use Rattle.cast_domain.specs.Calls.{records}
use Rattle.cast_domain.specs.RestCalls.{resting_records}
use Rattle.cast_domain.specs.Records.{KeepsBeside, records_in}
use Rattle.cast_domain.proofs.domain.Domain.let_go.Given as goal

-- to let go of what is free still leads to the same records
abbrev pub invariant-loop-key : goal.invariant-loop-key
invariant-loop-key l = record {
  stays : KeepsBeside l.fn.self l.fn.lent l.self l.lent;
  left : release.let_go records resting_records (records_in l.self l.lent)
      ≡ release.let_go records resting_records (records_in l.fn.self l.fn.lent);
}

abbrev pub decreases-loop-key : goal.decreases-loop-key
decreases-loop-key l = length (records_in l.self l.lent).part.kept
