use Rattle.std.proofs.Common.{◌∙◌, Some, ap}
use Rattle.std.specs.Option.{option_map}
use Rattle.cast_domain.specs.Shows.{groups_shown}
use Rattle.cast_table.proofs.Meant.{shows_groups}
use Rattle.cast_table.proofs.table.Table.groups.Goals as goal

pub returns-in_ok-show_groups-in-Some-clause-meant : goal.returns-in_ok-show_groups-in-Some-clause-meant
returns-in_ok-show_groups-in-Some-clause-meant c = λ d s there means.
    ap Some c.in_ok-show_groups-in-Some.ensures
    ∙ ap (option_map groups_shown) c.in-Some.ensures
    ∙ shows_groups c.args.number c.args.self.now d s there means
