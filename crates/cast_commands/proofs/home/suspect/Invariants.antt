use Rattle.std.proofs.Common.{◌≡◌, ◌-◌, vec_len, length}
use Rattle.std.specs.List.{fold, range_with_len}
use Rattle.cast_rules.specs.Rules.Home.{suspect_in}
use Rattle.cast_domain.specs.Calls.{records}
use Rattle.cast_domain.specs.Records.{KeepsBeside, records_in}
use Rattle.cast_commands.proofs.home.suspect.Given as goal

-- the places that are left lead to the same records
abbrev pub invariant-loop-place : goal.invariant-loop-place
invariant-loop-place l = record {
  stays : KeepsBeside l.fn.domain l.fn.lent l.domain l.lent;
  len : vec_len l.domain.groups ≡ vec_len l.fn.domain.groups;
  left : fold (suspect_in records l.site) (records_in l.domain l.lent) (range_with_len l.place (vec_len l.fn.domain.groups - l.place))
      ≡ fold (suspect_in records l.site) (records_in l.fn.domain l.fn.lent) (range_with_len 0 (length l.fn.domain.groups.items));
}
