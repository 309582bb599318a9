use Rattle.std.proofs.Common.{◌∙◌, ap}
use Rattle.std.proofs.lemmas.Result.{on_ok_weaker}
use Rattle.cast_message.specs.declared.site.SiteFrame.TheVariants as frame
use Rattle.cast_rules.specs.Rules.Views.{change_view}
use Rattle.cast_domain.specs.Shared.{part_of}
use Rattle.cast_domain.specs.Records.{records_in}
use Rattle.cast_domain.specs.PartCalls.{send_in}
use Rattle.cast_domain.specs.Calls.{records}
use Rattle.cast_domain.proofs.domain.Domain.install_view.Goals as goal

pub returns-clause-made : goal.returns-clause-made
returns-clause-made c =
    let r = records_in c.args.self.now c.args.lent.now in
    on_ok_weaker c.send.result (λ made cut.
    let next = change_view records c.args.skips r c.args.place c.args.view c.args.members.now c.args.request cut in
    made (part_of c.change_view.new.self.config.domain c.change_view.new.lent.shared.now)
    ∙ ap (λ x. send_in x c.args.from (frame.Installed c.record.result.now.name c.args.view)) (c.in_ok-change_view.ensures.made cut)
    ∙ ap (λ x. send_in next c.args.from (frame.Installed x.name c.args.view)) c.record.ensures) c.send.ensures
