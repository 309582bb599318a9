use Rattle.std.proofs.Common.{◌≡◌, ◌∙◌, Some, ap}
use Rattle.std.specs.Option.{option_map}
use Rattle.cast_domain.specs.Records.{number_of}
use Rattle.cast_domain.specs.Shared.{part_of}
use Rattle.cast_domain.specs.Shows.{shown_of}
use Rattle.cast_domain.specs.declared.domain.Domain.{Domain}
use Rattle.cast_table.specs.declared.table.Table.{Table}
use Rattle.cast_table.specs.Shows.{shown_at}
use Rattle.cast_table.proofs.Meant.{shows_history}
use Rattle.cast_table.proofs.table.Table.show.Goals as goal

pub returns-clause-meant : goal.returns-clause-meant
returns-clause-meant c = λ d s there means.
    let shown : Some c.show.result ≡ shown_at c.args.number c.args.self.now =
    ap Some c.show.ensures
    ∙ ap (λ (t : Table). option_map (λ (x : Domain). shown_of x (part_of (number_of x) t.shared)) (Some c.in_ok-domain.domain.now))
    c.self.view_is
    ∙ ap (option_map (λ (x : Domain). shown_of x (part_of (number_of x) c.args.self.now.shared))) c.in_ok-domain.ensures in
    shown ∙ shows_history c.args.number c.args.self.now d s there means
