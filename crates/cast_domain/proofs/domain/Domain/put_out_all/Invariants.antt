use Rattle.std.proofs.Common.{◌≡◌, drop}
use Rattle.std.specs.List.{fold}
use Rattle.cast_events.specs.declared.event.Outs.{Outs}
use Rattle.cast_domain.specs.Shared.{Part}
use Rattle.cast_domain.specs.PartCalls.{serials_in}
use Rattle.cast_domain.specs.ViewCalls.{put_out_all_in, put_out_if_in}
use Rattle.cast_domain.specs.Records.{Keeps, records_of}
use Rattle.cast_domain.proofs.Remaining.{RemainAs}
use Rattle.cast_domain.proofs.domain.Domain.put_out_all.Given as goal

-- the processes that are left lead to the same records, and their rows stay
abbrev pub invariant-loop-place : goal.invariant-loop-place
invariant-loop-place l = record {
  same : Keeps l.fn.self l.self;
  remain : (o : Outs) (part : Part) → RemainAs (records_of l.fn.self part o) (records_of l.self part o);
  left : (o : Outs) (part : Part) →
      fold (put_out_if_in l.group l.skips l.members) (records_of l.self part o) (drop l.place (serials_in (records_of l.fn.self part o)))
      ≡ put_out_all_in l.group l.skips l.members (records_of l.fn.self part o);
}
