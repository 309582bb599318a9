use Rattle.std.proofs.Common.{◌≡◌, false, drop, vec_len}
use Rattle.std.specs.Prelude.{◌||◌}
use Rattle.std.specs.List.{fold}
use Rattle.cast_rules.specs.Rules.Order.{set_order_by}
use Rattle.cast_domain.specs.Calls.{records}
use Rattle.cast_domain.specs.RestCalls.{resting_records}
use Rattle.cast_domain.specs.Flags.{orders_each}
use Rattle.cast_domain.specs.Records.{KeepsBeside, records_in}
use Rattle.cast_domain.specs.Freed.{AreNotFree}
use Rattle.cast_rest.proofs.order.set_order_by_each.Given as goal

-- the processes that are left lead to the same records
abbrev pub invariant-loop-serial : goal.invariant-loop-serial
invariant-loop-serial l = record {
  stays : KeepsBeside l.fn.domain l.fn.lent l.domain l.lent;
  clear : AreNotFree (records_in l.fn.domain l.fn.lent) → AreNotFree (records_in l.domain l.lent);
  len : vec_len l.domain.groups ≡ vec_len l.fn.domain.groups;
  left : fold (λ t k. set_order_by records resting_records t l.place k) (records_in l.domain l.lent) (drop l.serial-index l.holders)
      ≡ fold (λ t k. set_order_by records resting_records t l.place k) (records_in l.fn.domain l.fn.lent) l.holders;
  told : (l.changed || orders_each (records_in l.domain l.lent) l.place (drop l.serial-index l.holders))
      ≡ orders_each (records_in l.fn.domain l.fn.lent) l.place l.holders;
  still : l.changed ≡ false → records_in l.domain l.lent ≡ records_in l.fn.domain l.fn.lent;
}
