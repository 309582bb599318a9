use Rattle.std.proofs.Common.{◌≡◌, ◌++◌, map, filter, drop}
use Rattle.cast_types.specs.Sources.{source}
use Rattle.cast_stable.specs.Acks.{last_received_in}
use Rattle.cast_events.specs.Outs.{no_outs}
use Rattle.cast_view.specs.Sites.{is_at}
use Rattle.cast_domain.specs.Records.{records_of}
use Rattle.cast_domain.specs.Shared.{no_part}
use Rattle.cast_domain.specs.FlushCalls.{had_of}
use Rattle.cast_handlers.proofs.flushes.had.Given as goal

-- what is had so far with what the members sent that are left is all
abbrev pub invariant-loop-member : goal.invariant-loop-member
invariant-loop-member l =
    l.had.items ++ map (λ p. (p, last_received_in l.fn.domain.acks (source l.fn.group.name l.fn.group.here.number p)))
    (filter (is_at l.fn.domain.site) (drop l.member-index l.member-items))
    ≡ had_of (records_of l.fn.domain no_part no_outs) l.fn.group
