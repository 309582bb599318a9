use Rattle.std.proofs.Common.{◌∙◌, ap}
use Rattle.std.specs.List.{fold, list_any}
use Rattle.cast_domain.specs.Flags.{wants_more}
use Rattle.cast_rules.specs.Rules.Home.{want}
use Rattle.cast_domain.specs.Shared.{part_of}
use Rattle.cast_domain.specs.Records.{records_in}
use Rattle.cast_domain.specs.Calls.{records}
use Rattle.cast_rest.proofs.home.want_bodies.Goals as goal

pub returns-clause-made : goal.returns-clause-made
returns-clause-made c =
    let d = c.args.domain.now in
    let lent = c.args.lent.now in
    c.in_ok-changed.ensures.made
    ∙ ap (fold (want records c.args.place) (records_in d lent))
    (c.as_slice.ensures ∙ c.in_ok-wants.ensures lent.outs.now (part_of d.config.domain lent.shared.now))

pub returns-clause-told : goal.returns-clause-told
returns-clause-told c =
    let d = c.args.domain.now in
    let lent = c.args.lent.now in
    c.in_ok-changed.ensures.told
    ∙ ap (list_any (wants_more (records_in d lent) c.args.place))
    (c.as_slice.ensures ∙ c.in_ok-wants.ensures lent.outs.now (part_of d.config.domain lent.shared.now))
