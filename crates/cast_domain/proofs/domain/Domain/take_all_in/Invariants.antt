use Rattle.std.proofs.Common.{◌≡◌, drop}
use Rattle.std.specs.List.{fold}
use Rattle.cast_events.specs.declared.event.Outs.{Outs}
use Rattle.cast_domain.specs.Shared.{Part}
use Rattle.cast_domain.specs.ViewCalls.{take_in}
use Rattle.cast_domain.specs.Records.{Keeps, records_of}
use Rattle.cast_domain.proofs.domain.Domain.take_all_in.Given as goal

-- the members that are left lead to the same records
abbrev pub invariant-loop-process : goal.invariant-loop-process
invariant-loop-process l = record {
  same : Keeps l.fn.self l.self;
  left : (o : Outs) (part : Part) →
      fold (take_in l.group l.view l.request) (records_of l.self part o) (drop l.process-index l.members)
      ≡ fold (take_in l.group l.view l.request) (records_of l.fn.self part o) l.members;
}
