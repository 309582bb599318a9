use Rattle.std.proofs.Common.{ap, sym, ◌∙◌}
use Rattle.std.specs.Prelude.{slice_get}
use Rattle.cast_types.specs.declared.names.Uid.{Uid}
use Rattle.cast_types.specs.Names.{uid_eq}
use Rattle.cast_domain.proofs.Behind.{any_found, any_more, with_id}
use Rattle.cast_commands.proofs.trim.is_kept_among.Goals as goal

pub returns-then-eq : goal.returns-then-eq
returns-then-eq c =
    let kept = c.args.kept.now in
    let i = c.loop-position.position in
    let r = with_id (slice_get kept i) c.id.result c.id.ensures in
    any_found kept i r.0 r.1 (λ y. uid_eq y.message.id c.args.id)
    c.loop-position.invariant (ap (λ (id : Uid). uid_eq id c.args.id) r.2 ∙ sym c.eq.ensures ∙ c.if-eq.true)

pub loop-position-preserved : goal.loop-position-preserved
loop-position-preserved c =
    let kept = c.args.kept.now in
    let i = c.loop-position.position in
    let r = with_id (slice_get kept i) c.id.result c.id.ensures in
    any_more kept i r.0 r.1 (λ y. uid_eq y.message.id c.args.id)
    c.loop-position.invariant (ap (λ (id : Uid). uid_eq id c.args.id) r.2 ∙ sym c.eq.ensures ∙ c.if-eq.false)
