use Rattle.std.proofs.Common.{◌≡◌, ◌∙◌, ◌==◌, Option, Some, None, sym, ap, rules}
use Rattle.std.specs.Map.{lookup}
use Rattle.std.specs.Option.{option_map_or}
use Rattle.cast_events.specs.declared.session.Status.{Status}
use Rattle.cast_events.specs.declared.session.Status.TheVariants.{Gone}
use Rattle.cast_domain.proofs.Serials.{status_found}
use Rattle.cast_domain.proofs.sessions.Sessions.status.Goals as goal

pub returns-in-Some : goal.returns-in-Some
returns-in-Some c =
    let statuses = c.self.inside.statuses.entries in
    let found : lookup (λ j. c.args.serial == j) statuses ≡ Some c.in-Some.status.now = search rules in
    rw (← c.self.view_is)
    (sym (status_found c.args.serial statuses ∙ ap (λ (o : Option Status). option_map_or (λ (s : Status). s) o Gone) found))

pub returns-in-None : goal.returns-in-None
returns-in-None c =
    let statuses = c.self.inside.statuses.entries in
    let found : lookup (λ j. c.args.serial == j) statuses ≡ None = search rules in
    rw (← c.self.view_is)
    (sym (status_found c.args.serial statuses ∙ ap (λ (o : Option Status). option_map_or (λ (s : Status). s) o Gone) found))
