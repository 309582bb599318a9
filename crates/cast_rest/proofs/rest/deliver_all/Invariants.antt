use Rattle.std.proofs.Common.{◌≡◌, ◌-◌, true, false, length}
use Rattle.cast_types.specs.Repeat.{iterate}
use Rattle.cast_rules.specs.Rules.Rest.{deliver_first, deliver_all}
use Rattle.cast_domain.specs.Calls.{records}
use Rattle.cast_domain.specs.RestCalls.{resting_records}
use Rattle.cast_domain.specs.Records.{KeepsBeside, records_in}
use Rattle.cast_domain.specs.Flags.{has_ready}
use Rattle.cast_domain.specs.Shared.{part_of}
use Rattle.cast_domain.specs.Freed.{AreNotFree}
use Rattle.cast_rest.proofs.rest.deliver_all.Given as goal

-- the turns that are left lead to the same records
abbrev pub invariant-loop-turn : goal.invariant-loop-turn
invariant-loop-turn l = record {
  stays : KeepsBeside l.fn.domain l.fn.lent l.domain l.lent;
  clear : AreNotFree (records_in l.fn.domain l.fn.lent) → AreNotFree (records_in l.domain l.lent);
  left : AreNotFree (records_in l.fn.domain l.fn.lent) →
      iterate (length (part_of l.fn.domain.config.domain l.fn.lent.shared.now).kept - l._turn)
      (deliver_first records resting_records l.serial) (records_in l.domain l.lent)
      ≡ deliver_all records resting_records (records_in l.fn.domain l.fn.lent) l.serial;
  told : l.changed ≡ true → has_ready (records_in l.fn.domain l.fn.lent) l.serial ≡ true;
  none : l.changed ≡ false → l._turn ≡ 0;
  still : l.changed ≡ false → records_in l.domain l.lent ≡ records_in l.fn.domain l.fn.lent;
}
