use Rattle.std.proofs.Common.{◌≡◌, ◌∙◌, None, Some, ap}
use Rattle.cast_table.specs.Tables.{place_named}
use Rattle.cast_isolation.proofs.Back.{none_first, some_first}
use Rattle.cast_isolation.proofs.replays.take_of.Goals as goal

pub returns-in_err-place-clause-first : goal.returns-in_err-place-clause-first
returns-in_err-place-clause-first c =
    let none : None ≡ place_named c.args.number c.args.domains.now.items =
    c.in_err-place.ensures.named ∙ ap (place_named c.args.number) c.deref.ensures.value in
    c.from_residual.ensures ∙ (none_first c.args.number 0 c.args.domains.now.items none).0

pub returns-in_err-place-clause-others : goal.returns-in_err-place-clause-others
returns-in_err-place-clause-others c =
    let none : None ≡ place_named c.args.number c.args.domains.now.items =
    c.in_err-place.ensures.named ∙ ap (place_named c.args.number) c.deref.ensures.value in
    (none_first c.args.number 0 c.args.domains.now.items none).1

pub returns-clause-first : goal.returns-clause-first
returns-clause-first c =
    let some : Some c.in_ok-place.place ≡ place_named c.args.number c.args.domains.now.items =
    c.in_ok-place.ensures.named ∙ ap (place_named c.args.number) c.deref.ensures.value in
    (some_first c.args.number c.in_ok-place.place c.args.domains.now.items some c.remove.result c.remove.ensures.value).0

pub returns-clause-others : goal.returns-clause-others
returns-clause-others c =
    let some : Some c.in_ok-place.place ≡ place_named c.args.number c.args.domains.now.items =
    c.in_ok-place.ensures.named ∙ ap (place_named c.args.number) c.deref.ensures.value in
    c.remove.ensures.items
    ∙ (some_first c.args.number c.in_ok-place.place c.args.domains.now.items some c.remove.result c.remove.ensures.value).1
