use Rattle.std.proofs.Common.{◌∙◌, sym, ap}
use Rattle.cast_message.specs.declared.site.SiteFrame.TheVariants as frame
use Rattle.cast_rules.specs.Rules.Requests.{answer_ask}
use Rattle.cast_domain.specs.Records.{records_of}
use Rattle.cast_domain.specs.PartCalls.{send_in}
use Rattle.cast_domain.specs.Calls.{records}
use Rattle.cast_handlers.proofs.requests.answer_ask.Goals as goal

pub returns-in_ok-send-in-Some : goal.returns-in_ok-send-in-Some
returns-in_ok-send-in-Some c part =
    let r = records_of c.args.domain.now part c.args.outs.now in
    c.in_ok-send-in-Some.ensures part
    ∙ (λ j. send_in r c.args.to (frame.Asked (c.record.ensures j).name c.args.number c.in-Some.full))
    ∙ ap (answer_ask records r c.args.place c.args.to c.args.number) (sym c.in-Some.is)
