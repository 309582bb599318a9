use Rattle.std.proofs.Common.{◌≡◌, ◌-◌, false, length}
use Rattle.std.specs.Prelude.{◌||◌}
use Rattle.cast_domain.specs.Flags.{changes_over, goes_on, goes_on_some}
use Rattle.std.specs.List.{fold, range_with_len}
use Rattle.cast_rules.specs.Rules.Flushes.{go_on, go_on_all}
use Rattle.cast_domain.specs.Calls.{records}
use Rattle.cast_domain.specs.RestCalls.{resting_records}
use Rattle.cast_domain.specs.Records.{KeepsBeside, records_in}
use Rattle.cast_domain.specs.Freed.{AreNotFree}
use Rattle.cast_rest.proofs.flushes.go_on_all.Given as goal

-- the places that are left lead to the same records
abbrev pub invariant-loop-place : goal.invariant-loop-place
invariant-loop-place l = record {
  stays : KeepsBeside l.fn.domain l.fn.lent l.domain l.lent;
  clear : AreNotFree (records_in l.fn.domain l.fn.lent) → AreNotFree (records_in l.domain l.lent);
  left : fold (go_on records resting_records) (records_in l.domain l.lent)
      (range_with_len l.place (length l.fn.domain.groups.items - l.place))
      ≡ go_on_all records resting_records (records_in l.fn.domain l.fn.lent);
  told : (l.changed || changes_over goes_on (go_on records resting_records) (records_in l.domain l.lent)
      (range_with_len l.place (length l.fn.domain.groups.items - l.place))) ≡ goes_on_some (records_in l.fn.domain l.fn.lent);
  still : l.changed ≡ false → records_in l.domain l.lent ≡ records_in l.fn.domain l.fn.lent;
}
