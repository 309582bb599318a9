use Rattle.std.proofs.Common.{◌≡◌, ◌∙◌, ap}
use Rattle.std.specs.List.{fold}
use Rattle.cast_stable.specs.Acks.{others_in}
use Rattle.cast_rules.specs.Rules.Sending.{send_data}
use Rattle.cast_domain.specs.Records.{records_in}
use Rattle.cast_domain.specs.PartCalls.{receive_in}
use Rattle.cast_domain.specs.Calls.{records}
use Rattle.cast_domain.proofs.domain.Domain.send_message.Goals as goal

pub returns-clause-made : goal.returns-clause-made
returns-clause-made c =
    let r = records_in c.args.self.now c.args.lent.now in
    let m = c.args.message in
    let received : records_in c.receive.new.self c.receive.new.lent ≡ receive_in r m = c.in_ok-receive.ensures.made in
    let others : c.others.result.now ≡ others_in r.acks m.id.group = c.others.ensures ∙ ap (λ x. others_in x.acks m.id.group) received in
    c.in_ok-send_data.ensures.made ∙ λ j. fold (send_data records m.id) (received j) (others j)
