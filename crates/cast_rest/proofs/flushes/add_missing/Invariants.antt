use Rattle.std.proofs.Common.{◌≡◌, ◌≤◌, ◌++◌, not, ◌&&◌, filter, length, take}
use Rattle.cast_ready.specs.Ready.{first_of}
use Rattle.cast_events.specs.Outs.{no_outs}
use Rattle.cast_domain.specs.Records.{records_of}
use Rattle.cast_domain.specs.Shared.{no_part}
use Rattle.cast_domain.specs.FlushCalls.{is_awaited_of, is_received_of}
use Rattle.cast_domain.proofs.Least.{left}
use Rattle.cast_rest.proofs.flushes.add_missing.Given as goal

-- the missing ones so far with those that are left are all
abbrev pub invariant-loop-before : goal.invariant-loop-before
invariant-loop-before l = record {
  few : length l.missing.items ≤ 64;
  all : take 64 (l.missing.items ++ left (λ e. is_awaited_of (records_of l.fn.domain no_part no_outs) l.fn.group e
      && not (is_received_of (records_of l.fn.domain no_part no_outs) l.fn.group e)) l.proc l.before l.last)
      ≡ take 64 (l.fn.missing.items ++ filter (λ e. is_awaited_of (records_of l.fn.domain no_part no_outs) l.fn.group e
      && not (is_received_of (records_of l.fn.domain no_part no_outs) l.fn.group e)) (first_of (l.proc, l.last)));
}
