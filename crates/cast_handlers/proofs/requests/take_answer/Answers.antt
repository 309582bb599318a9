use Rattle.std.proofs.Common.{◌≡◌, ◌∙◌, ap}
use Rattle.cast_rules.specs.Rules.Keys.{ask_key}
use Rattle.cast_rules.specs.Rules.Asking.{ask_home}
use Rattle.cast_domain.specs.Records.{records_in}
use Rattle.cast_domain.specs.PartCalls.{pay_in, record_at}
use Rattle.cast_domain.specs.Calls.{records}
use Rattle.cast_handlers.proofs.requests.take_answer.Goals as goal

pub returns-clause-made : goal.returns-clause-made
returns-clause-made c =
    let r = records_in c.args.domain.now c.args.lent.now in
    let i = c.args.place in
    let home = r.config.home in
    let key : c.ask_key-key.result ≡ ask_key (record_at r.groups i).name home =
    c.ask_key-key.ensures ∙ ap (λ y. ask_key y.name home) c.record.ensures in
    c.in_ok-ask_home.ensures.made
    ∙ (λ j. ask_home records (record ((c.pay.ensures.made ∙ ap (pay_in r) key) j) { groups = c.answer_at.ensures.items j }) i)
