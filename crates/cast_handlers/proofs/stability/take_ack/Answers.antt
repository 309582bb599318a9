use Rattle.std.proofs.Common.{◌∙◌, ap}
use Rattle.cast_domain.specs.Records.{records_in}
use Rattle.cast_domain.specs.PartCalls.{pay_in}
use Rattle.cast_handlers.proofs.stability.take_ack.Goals as goal

pub returns-clause-made : goal.returns-clause-made
returns-clause-made c =
    let r = records_in c.args.domain.now c.args.lent.now in
    λ j. record ((c.pay.ensures.made ∙ ap (pay_in r) c.message_key.ensures) j) { acks = c.in_ok-ack.ensures.ok j }
