use Rattle.std.proofs.Common.{◌≡◌, drop}
use Rattle.std.specs.List.{fold}
use Rattle.cast_domain.specs.ReleaseCalls.{is_ended_in, release_in, release_all_in}
use Rattle.cast_domain.specs.Records.{KeepsBeside, records_in}
use Rattle.cast_domain.proofs.domain.Domain.release_ended.Given as goal

-- the keys that are left lead to the same records
abbrev pub invariant-loop-key : goal.invariant-loop-key
invariant-loop-key l = record {
  stays : KeepsBeside l.fn.self l.fn.lent l.self l.lent;
  left : fold release_in (records_in l.self l.lent) (drop l.key-index l.key-items)
      ≡ release_all_in (records_in l.fn.self l.fn.lent) (is_ended_in (records_in l.fn.self l.fn.lent) l.place);
}
