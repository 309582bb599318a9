use Rattle.std.proofs.Common.{◌≡◌, ◌++◌, drop, filter}
use Rattle.cast_events.specs.Outs.{no_outs}
use Rattle.cast_domain.specs.Shared.{no_part}
use Rattle.cast_domain.specs.Records.{records_of}
use Rattle.cast_domain.specs.PartCalls.{serials_in}
use Rattle.cast_domain.specs.ViewCalls.{is_member_in}
use Rattle.cast_domain.proofs.domain.Domain.serials_of_members.Given as goal

-- those so far with those that are left are all
abbrev pub invariant-loop-place : goal.invariant-loop-place
invariant-loop-place l =
    l.here.items ++ filter (is_member_in (records_of l.fn.self no_part no_outs) l.group)
    (drop l.place (serials_in (records_of l.fn.self no_part no_outs)))
    ≡ filter (is_member_in (records_of l.fn.self no_part no_outs) l.group) (serials_in (records_of l.fn.self no_part no_outs))
