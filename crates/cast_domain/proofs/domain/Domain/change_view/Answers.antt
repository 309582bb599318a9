use Rattle.std.proofs.Common.{◌∙◌, ap}
use Rattle.cast_domain.specs.Records.{records_in}
use Rattle.cast_domain.specs.ReleaseCalls.{pay_view_in}
use Rattle.cast_domain.specs.Calls.{records}
use Rattle.cast_rules.specs.Rules.Views.{enter_and_tell}
use Rattle.cast_domain.proofs.domain.Domain.change_view.Goals as goal

pub returns-clause-made : goal.returns-clause-made
returns-clause-made c cut =
    let r = records_in c.args.self.now c.args.lent.now in
    let i = c.args.place in
    let next = enter_and_tell records c.args.skips r i c.args.view c.args.members.now c.args.request cut in
    (λ j. record (records_in c.release_ended.new.self c.release_ended.new.lent) { part = c.pay_view.ensures.part j })
    ∙ ap (λ x. pay_view_in x c.record.result.now.name)
    (c.in_ok-release_ended.ensures.made ∙ ap (λ x. records.release_ended x i) (c.in_ok-enter_and_tell.ensures.made cut))
    ∙ ap (λ x. pay_view_in (records.release_ended next i) x.name) c.record.ensures
