use Rattle.std.proofs.Common.{sym, ◌∙◌}
use Rattle.std.proofs.lemmas.Option.{slice_get_within, get_or_from_slice_get}
use Rattle.cast_message.specs.declared.message.Received.{Received}
use Rattle.cast_domain.proofs.Marks.{names_more}
use Rattle.cast_handlers.proofs.flushes.names_of.Goals as goal

pub loop-position-preserved : goal.loop-position-preserved
loop-position-preserved c =
    let kept = c.args.kept.now in
    let i = c.loop-position.position in
    let r : Received = record { key = c.at.result.0; message = c.at.result.1.now } in
    names_more c.args.group.now c.loop-position.names.items c.add_name.new.names.items kept i r
    (slice_get_within kept i r c.at.ensures) (sym (get_or_from_slice_get kept i r r c.at.ensures)) c.in_ok-add_name.ensures
    ∙ c.loop-position.invariant
