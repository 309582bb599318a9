use Rattle.std.proofs.Common.{◌∙◌, ap}
use Rattle.std.specs.List.{fold}
use Rattle.cast_rules.specs.Rules.Home.{drop_want}
use Rattle.cast_domain.specs.Records.{records_in}
use Rattle.cast_domain.specs.Calls.{records}
use Rattle.cast_commands.proofs.home.drop_wants.Goals as goal

pub returns-clause-made : goal.returns-clause-made
returns-clause-made c =
    let lent = c.args.lent.now in
    let r = records_in c.args.domain.now lent in
    c.drop_all.ensures.made
    ∙ ap (λ ws. fold (drop_want records c.args.place ws) r c.args.before.now)
    (c.as_slice.ensures ∙ c.in_ok-still.ensures lent.outs.now r.part)
