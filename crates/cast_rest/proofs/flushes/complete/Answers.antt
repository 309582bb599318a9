use Rattle.std.proofs.Common.{ℕ, ◌+◌, ◌∙◌, ap, false}
use Rattle.cast_rules.specs.Rules.Views.{install}
use Rattle.cast_domain.specs.Records.{records_in}
use Rattle.cast_domain.specs.Calls.{records}
use Rattle.cast_rest.proofs.flushes.complete.Goals as goal

-- the next number is the one after the group's
pub returns-clause-made : goal.returns-clause-made
returns-clause-made c = λ cut.
    let d = c.args.domain.now in
    let r = records_in d c.args.lent.now in
    c.in_ok-install_view.ensures.made cut
    ∙ ap (λ (n : ℕ). install records false r c.args.place d.config.home (n + 1) c.args.members.now c.args.request cut)
    (c.number-next.ensures ∙ ap (λ x. x.here.number) c.record.ensures)
