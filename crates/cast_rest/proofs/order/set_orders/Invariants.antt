use Rattle.std.proofs.Common.{◌≡◌, ◌-◌, false, length, vec_len}
use Rattle.std.specs.Prelude.{◌||◌}
use Rattle.cast_domain.specs.Flags.{changes_over, orders_at, orders_some}
use Rattle.std.specs.List.{fold, range_with_len}
use Rattle.cast_rules.specs.Rules.Order.{set_order, set_orders}
use Rattle.cast_domain.specs.Calls.{records}
use Rattle.cast_domain.specs.RestCalls.{resting_records}
use Rattle.cast_domain.specs.Records.{KeepsBeside, records_in}
use Rattle.cast_domain.specs.Freed.{AreNotFree}
use Rattle.cast_rest.proofs.order.set_orders.Given as goal

-- the places that are left lead to the same records
abbrev pub invariant-loop-place : goal.invariant-loop-place
invariant-loop-place l = record {
  stays : KeepsBeside l.fn.domain l.fn.lent l.domain l.lent;
  clear : AreNotFree (records_in l.fn.domain l.fn.lent) → AreNotFree (records_in l.domain l.lent);
  len : vec_len l.domain.groups ≡ vec_len l.fn.domain.groups;
  left : fold (set_order records resting_records) (records_in l.domain l.lent)
      (range_with_len l.place (length l.fn.domain.groups.items - l.place))
      ≡ set_orders records resting_records (records_in l.fn.domain l.fn.lent);
  told : (l.changed || changes_over orders_at (set_order records resting_records) (records_in l.domain l.lent)
      (range_with_len l.place (length l.fn.domain.groups.items - l.place))) ≡ orders_some (records_in l.fn.domain l.fn.lent);
  still : l.changed ≡ false → records_in l.domain l.lent ≡ records_in l.fn.domain l.fn.lent;
}
