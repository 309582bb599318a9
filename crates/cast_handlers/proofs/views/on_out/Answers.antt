use Rattle.std.proofs.Common.{◌≡◌, [], true, arith, ◌∙◌, sym, ap}
use Rattle.std.specs.Prelude.{if◌then◌else◌}
use Rattle.std.proofs.lemmas.Bool.Decides.{nat_tests}
use Rattle.cast_view.specs.MemberSide.{is_put_out_by}
use Rattle.cast_rules.specs.Rules.Views.{change_view, no_members}
use Rattle.cast_domain.specs.Records.{records_in}
use Rattle.cast_domain.specs.PartCalls.{record_at}
use Rattle.cast_domain.specs.Calls.{records}
use Rattle.cast_handlers.proofs.views.on_out.Goals as goal

pub returns-in_ok-change_view-clause-made : goal.returns-in_ok-change_view-clause-made
returns-in_ok-change_view-clause-made c =
    let r = records_in c.args.domain.now c.args.lent.now in
    let i = c.args.place in
    let n = c.args.view in
    let number = c.number.ensures ∙ ap (λ x. x.here.number) c.record.ensures in
    let later : is_put_out_by (record_at r.groups i).here n ≡ true = grind (arith, nat_tests) in
    c.in_ok-change_view.ensures.made []
    ∙ ap (λ x. change_view records true r i n x 0 []) c.new-nobody.ensures
    ∙ sym (ap (λ b. if b then change_view records true r i n no_members 0 [] else r) later)
