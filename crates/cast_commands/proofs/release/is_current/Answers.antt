use Rattle.std.proofs.Common.{ℕ, Option, false, ◌∙◌, sym, ap}
use Rattle.std.specs.Option.{option_map_or}
use Rattle.cast_view.specs.MemberSide.{is_current}
use Rattle.cast_domain.specs.PartCalls.{record_at}
use Rattle.cast_commands.proofs.release.is_current.Goals as goal

pub returns-in-Some : goal.returns-in-Some
returns-in-Some c =
    let d = c.args.domain.now in
    let u = c.args.id in
    c.is_current.ensures
    ∙ ap (λ x. is_current x.here u.view) c.record.ensures
    ∙ ap (λ (p : Option ℕ). option_map_or (λ i. is_current (record_at d.groups.items i).here u.view) p false)
    (sym c.in-Some.is ∙ c.place_of.ensures.place)

pub returns-in-None : goal.returns-in-None
returns-in-None c =
    let d = c.args.domain.now in
    let u = c.args.id in
    ap (λ (p : Option ℕ). option_map_or (λ i. is_current (record_at d.groups.items i).here u.view) p false)
    (sym c.in-None.is ∙ c.place_of.ensures.place)
