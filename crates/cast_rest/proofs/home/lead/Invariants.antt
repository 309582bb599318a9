use Rattle.std.proofs.Common.{◌≡◌, ◌-◌, false, vec_len, length}
use Rattle.std.specs.Prelude.{◌||◌}
use Rattle.cast_domain.specs.Flags.{changes_over, leads_in}
use Rattle.std.specs.List.{fold, range_with_len}
use Rattle.cast_rules.specs.Rules.Home.{lead_group}
use Rattle.cast_domain.specs.Calls.{records}
use Rattle.cast_domain.specs.Records.{KeepsBeside, records_in}
use Rattle.cast_rest.proofs.home.lead.Given as goal

-- the places that are left lead to the same records
abbrev pub invariant-loop-place : goal.invariant-loop-place
invariant-loop-place l = record {
  stays : KeepsBeside l.fn.domain l.fn.lent l.domain l.lent;
  len : vec_len l.domain.groups ≡ vec_len l.fn.domain.groups;
  left : fold (lead_group records) (records_in l.domain l.lent) (range_with_len l.place (vec_len l.fn.domain.groups - l.place))
      ≡ fold (lead_group records) (records_in l.fn.domain l.fn.lent) (range_with_len 0 (length l.fn.domain.groups.items));
  told : (l.changed || changes_over leads_in (lead_group records) (records_in l.domain l.lent)
      (range_with_len l.place (vec_len l.fn.domain.groups - l.place)))
      ≡ changes_over leads_in (lead_group records) (records_in l.fn.domain l.fn.lent) (range_with_len 0 (length l.fn.domain.groups.items));
  still : l.changed ≡ false → records_in l.domain l.lent ≡ records_in l.fn.domain l.fn.lent;
}
