use Rattle.std.proofs.Common.{◌≡◌, ◌-◌, vec_len}
use Rattle.std.specs.List.{fold, range_with_len}
use Rattle.cast_rules.specs.Rules.Leaving.{leave_each, leave_all}
use Rattle.cast_domain.specs.Calls.{records}
use Rattle.cast_domain.specs.Records.{KeepsBeside, records_in}
use Rattle.cast_domain.proofs.domain.Domain.leave_all.Given as goal

-- the places that are left lead to the same records
abbrev pub invariant-loop-place : goal.invariant-loop-place
invariant-loop-place l = record {
  stays : KeepsBeside l.fn.self l.fn.lent l.self l.lent;
  len : vec_len l.self.groups ≡ vec_len l.fn.self.groups;
  left : fold (leave_each records l.serial) (records_in l.self l.lent) (range_with_len l.place (vec_len l.fn.self.groups - l.place))
      ≡ leave_all records (records_in l.fn.self l.fn.lent) l.serial;
}
