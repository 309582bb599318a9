use Rattle.std.proofs.Common.{◌≡◌, ◌≤◌, ◌++◌, not, ◌&&◌, filter, length, take, drop}
use Rattle.cast_ready.specs.Ready.{covered_entries}
use Rattle.cast_events.specs.Outs.{no_outs}
use Rattle.cast_domain.specs.Records.{records_of}
use Rattle.cast_domain.specs.Shared.{no_part}
use Rattle.cast_domain.specs.PartCalls.{record_at}
use Rattle.cast_domain.specs.FlushCalls.{is_awaited_of, is_received_of, missing_of}
use Rattle.cast_rest.proofs.flushes.missing_ids.Given as goal

-- the missing ones so far with those of the processes that are left are all
abbrev pub invariant-loop-proc : goal.invariant-loop-proc
invariant-loop-proc l = record {
  few : length l.missing.items ≤ 64;
  all : take 64 (l.missing.items
      ++ filter (λ e. is_awaited_of (records_of l.fn.domain no_part no_outs) (record_at l.fn.domain.groups.items l.fn.place) e
      && not (is_received_of (records_of l.fn.domain no_part no_outs) (record_at l.fn.domain.groups.items l.fn.place) e))
      (covered_entries (drop l.proc-index l.proc-items)))
      ≡ missing_of (records_of l.fn.domain no_part no_outs) (record_at l.fn.domain.groups.items l.fn.place) l.fn.cut;
}
