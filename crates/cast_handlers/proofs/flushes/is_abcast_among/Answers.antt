use Rattle.std.proofs.Common.{◌&&◌, sym, ◌∙◌}
use Rattle.cast_domain.specs.FlushCalls.{is_kept_of, is_abcast_named}
use Rattle.cast_domain.proofs.Behind.{any_found, any_more}
use Rattle.cast_handlers.proofs.flushes.is_abcast_among.Goals as goal

pub returns-then-is_kept_abcast : goal.returns-then-is_kept_abcast
returns-then-is_kept_abcast c =
    any_found c.args.kept.now c.loop-position.position (record { key = c.at.result.0; message = c.at.result.1.now })
    c.at.ensures (λ r. is_kept_of c.args.group.now r.message && is_abcast_named c.args.name r.message)
    c.loop-position.invariant (sym c.is_kept_abcast.ensures ∙ c.if-is_kept_abcast.true)

pub loop-position-preserved : goal.loop-position-preserved
loop-position-preserved c =
    any_more c.args.kept.now c.loop-position.position (record { key = c.at.result.0; message = c.at.result.1.now })
    c.at.ensures (λ r. is_kept_of c.args.group.now r.message && is_abcast_named c.args.name r.message)
    c.loop-position.invariant (sym c.is_kept_abcast.ensures ∙ c.if-is_kept_abcast.false)
