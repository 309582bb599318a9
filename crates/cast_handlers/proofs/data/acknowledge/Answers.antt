use Rattle.std.proofs.Common.{◌≡◌, ◌∙◌, sym, ap, true}
use Rattle.std.specs.Prelude.{if◌then◌else◌}
use Rattle.std.proofs.lemmas.Result.{on_ok_weaker}
use Rattle.cast_message.specs.declared.site.SiteFrame.TheVariants as frame
use Rattle.cast_stable.specs.Acks.{is_stable_in}
use Rattle.cast_timer.specs.declared.key.OwedKind.TheVariants as kinds
use Rattle.cast_rules.specs.Rules.Keys.{message_key}
use Rattle.cast_rules.specs.Rules.Owing.{owe}
use Rattle.cast_domain.specs.Records.{records_in}
use Rattle.cast_domain.specs.PartCalls.{send_in}
use Rattle.cast_domain.specs.Calls.{records}
use Rattle.cast_handlers.proofs.data.acknowledge.Goals as goal

pub returns-then-is_stable-clause-made : goal.returns-then-is_stable-clause-made
returns-then-is_stable-clause-made c =
    let r = records_in c.args.domain.now c.args.lent.now in
    let u = c.args.id in
    let to = c.args.to in
    let stable : is_stable_in r.acks u ≡ true = sym c.is_stable.ensures.value ∙ c.if-is_stable.true in
    on_ok_weaker c.send.result
    (λ sent. sent r.part ∙ sym (ap (λ b. if b then send_in r to (frame.Ack u) else owe records r (message_key kinds.Ack u to)) stable))
    c.send.ensures
