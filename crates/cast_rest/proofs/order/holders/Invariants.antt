use Rattle.std.proofs.Common.{◌≡◌, ◌++◌, drop}
use Rattle.cast_events.specs.Outs.{no_outs}
use Rattle.cast_order.specs.Log.{log_of}
use Rattle.cast_domain.specs.Shared.{no_part}
use Rattle.cast_domain.specs.Records.{records_of}
use Rattle.cast_domain.specs.FlushCalls.{holders_among}
use Rattle.cast_rest.proofs.order.holders.Given as goal

-- those so far with those that are left are all
abbrev pub invariant-loop-hand : goal.invariant-loop-hand
invariant-loop-hand l =
    l.holders.items
    ++ holders_among (records_of l.fn.domain no_part no_outs) (drop l.hand-index (log_of l.fn.domain.orders l.fn.group).hands)
    ≡ holders_among (records_of l.fn.domain no_part no_outs) (log_of l.fn.domain.orders l.fn.group).hands
