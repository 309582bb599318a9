use Rattle.std.proofs.Common.{◌≡◌, ◌-◌, length}
use Rattle.std.specs.List.{fold, range_with_len}
use Rattle.cast_events.specs.declared.event.Outs.{Outs}
use Rattle.cast_domain.specs.Shared.{Part}
use Rattle.cast_domain.specs.Records.{Keeps, records_of}
use Rattle.cast_domain.specs.Trims.{trim_in, trim_all_in}
use Rattle.cast_commands.proofs.trim.trim_orders.Given as goal

-- the places that are left lead to the same records
abbrev pub invariant-loop-place : goal.invariant-loop-place
invariant-loop-place l = record {
  same : Keeps l.fn.domain l.domain;
  groups : l.domain.groups ≡ l.fn.domain.groups;
  left : (o : Outs) (part : Part) →
      fold (trim_in l.kept) (records_of l.domain part o) (range_with_len l.place (length l.fn.domain.groups.items - l.place))
      ≡ trim_all_in l.kept (records_of l.fn.domain part o);
}
