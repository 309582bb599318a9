use Rattle.std.proofs.Common.{◌++◌, ◌∙◌, not, ◌&&◌, filter, length, take, ap, arith}
use Rattle.cast_ready.specs.Ready.{covered_entries}
use Rattle.cast_events.specs.Outs.{no_outs}
use Rattle.cast_domain.specs.Records.{records_of}
use Rattle.cast_domain.specs.Shared.{no_part}
use Rattle.cast_domain.specs.PartCalls.{record_at}
use Rattle.cast_domain.specs.FlushCalls.{is_awaited_of, is_received_of}
use Rattle.cast_domain.proofs.Least.{missing_more, missing_end, taken_few}
use Rattle.cast_rest.proofs.flushes.missing_ids.Goals as goal

pub loop-proc-init : goal.loop-proc-init
loop-proc-init c =
    let r = records_of c.args.domain.now no_part no_outs in
    let x = record_at c.args.domain.now.groups.items c.args.place in
    record {
      few = omega (arith, ap length c.new-missing.ensures.items);
      all = λ j. take 64 (c.new-missing.ensures.items j
          ++ filter (λ e. is_awaited_of r x e && not (is_received_of r x e)) (covered_entries (c.entries-proc-items.ensures.value j)));
    }

pub add_missing-requires : goal.add_missing-requires
add_missing-requires c = c.loop-proc.invariant.few

pub loop-proc-preserved : goal.loop-proc-preserved
loop-proc-preserved c =
    let r = records_of c.args.domain.now no_part no_outs in
    let x = record_at c.args.domain.now.groups.items c.args.place in
    record {
      few = taken_few 64 _ c.add_missing.new.missing.items c.in_ok-add_missing.ensures;
      all =
          missing_more (λ y e. is_awaited_of r y e && not (is_received_of r y e)) c.record-record.result.now x c.record-record.ensures
          c.loop-proc.missing.items c.add_missing.new.missing.items c.entries-proc-items.result.now c.loop-proc.proc-index _
          c.loop-proc-test.true c.in_ok-add_missing.ensures
          ∙ c.loop-proc.invariant.all;
    }

pub returns : goal.returns
returns c =
    let r = records_of c.args.domain.now no_part no_outs in
    let x = record_at c.args.domain.now.groups.items c.args.place in
    missing_end (λ e. is_awaited_of r x e && not (is_received_of r x e))
    c.loop-proc.missing.items c.entries-proc-items.result.now c.loop-proc.proc-index c.loop-proc-test.false c.loop-proc.invariant.few
    ∙ c.loop-proc.invariant.all
