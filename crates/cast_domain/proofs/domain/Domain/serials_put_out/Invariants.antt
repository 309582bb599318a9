use Rattle.std.proofs.Common.{◌≡◌, ◌++◌, drop, filter}
use Rattle.cast_events.specs.Outs.{no_outs}
use Rattle.cast_domain.specs.Shared.{no_part}
use Rattle.cast_domain.specs.Records.{records_of}
use Rattle.cast_domain.specs.PartCalls.{serials_in}
use Rattle.cast_domain.specs.ViewCalls.{is_put_out_in}
use Rattle.cast_domain.proofs.domain.Domain.serials_put_out.Given as goal

-- those so far with those that are left are all
abbrev pub invariant-loop-place : goal.invariant-loop-place
invariant-loop-place l =
    l.out.items ++ filter (is_put_out_in l.group l.skips l.members (records_of l.fn.self no_part no_outs))
    (drop l.place (serials_in (records_of l.fn.self no_part no_outs)))
    ≡ filter (is_put_out_in l.group l.skips l.members (records_of l.fn.self no_part no_outs))
    (serials_in (records_of l.fn.self no_part no_outs))
