use Rattle.std.proofs.Common.{◌≡◌, IsTrue, subst, sym, ◌∙◌}
use Rattle.cast_clock.specs.Times.{at_most, is_time}
use Rattle.cast_clock.proofs.Orders.{order_is_pointwise, in_order_time}
use Rattle.cast_clock.proofs.times.Times.at_most.Goals as goal

pub returns-clause-order : goal.returns-clause-order
returns-clause-order c =
    let mine = c.args.self.now in
    let here = c.deref.ensures.value ∙ c.self.view_is in
    let there = c.deref-2.ensures.value ∙ c.other.view_is in
    let valid : IsTrue (is_time mine) = subst (λ t. IsTrue (is_time t)) c.self.view_is c.self.invariant in
    let tested : c.all_at_most.result ≡ at_most mine c.args.other.now = c.all_at_most.ensures ∙ (λ i. at_most (here i) (there i)) in
    let order = order_is_pointwise mine c.args.other.now (in_order_time mine valid) in
    (λ held. order.0 (sym tested ∙ held), λ all. tested ∙ order.1 all)
