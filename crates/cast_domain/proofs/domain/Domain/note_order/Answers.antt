use Rattle.std.proofs.Common.{◌∙◌, sym}
use Rattle.std.proofs.lemmas.Result.{on_ok_weaker}
use Rattle.cast_domain.specs.Records.{records_of}
use Rattle.cast_domain.specs.PartCalls.{orders_sent, settled_in}
use Rattle.cast_domain.proofs.domain.Domain.note_order.Goals as goal

pub returns-in-Order-clause-made : goal.returns-in-Order-clause-made
returns-in-Order-clause-made c =
    let u = c.args.message.now.id in
    on_ok_weaker c.note_places.result
    (λ made o part.
    let r = records_of c.args.self.now part o in
    made o part ∙ (λ j. record r { orders = orders_sent r.orders u (settled_in r u.group u.view u.proc) (sym c.in-Order.is j) }))
    c.note_places.ensures.made
