use Rattle.std.proofs.Common.{sym, ap, inl, inr}
use Rattle.cast_domain.specs.PartCalls.{learn_in}
use Rattle.cast_domain.proofs.order.learn.Goals as goal

pub returns-in-Order : goal.returns-in-Order
returns-in-Order c = rw c.in-Order.is c.learn.ensures

pub returns-in-Causal : goal.returns-in-Causal
returns-in-Causal c = elim c.in-Causal.is [
  | inl causal ↦ sym (ap (learn_in c.args.orders.now c.args.message.now.id.group) causal.1)
  | inr atomic ↦ sym (ap (learn_in c.args.orders.now c.args.message.now.id.group) atomic.1)
]
