use Rattle.std.proofs.Common.{◌∙◌}
use Rattle.cast_rules.specs.Rules.Home.{drop_wants}
use Rattle.cast_domain.specs.Records.{records_in}
use Rattle.cast_domain.specs.Calls.{records}
use Rattle.cast_commands.proofs.home.suspect_in.Goals as goal

pub returns-clause-made : goal.returns-clause-made
returns-clause-made c =
    let lent = c.args.lent.now in
    let r = records_in c.args.domain.now lent in
    let wanted = c.as_slice.ensures ∙ c.in_ok-wanted.ensures lent.outs.now r.part in
    c.in_ok-drop_wants.ensures.made
    ∙ (λ j.
    drop_wants records (record (c.release_site.ensures.made j) { groups = c.in_ok-suspect_at.ensures.items j }) c.args.place (wanted j))
