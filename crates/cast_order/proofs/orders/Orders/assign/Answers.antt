use Rattle.std.proofs.Common.{◌≡◌, subst, rules}
use Rattle.std.specs.Prelude.{IfOk}
use Rattle.cast_order.specs.Log.{Log, log_of, next_places}
use Rattle.cast_order.proofs.orders.Orders.assign.Goals as goal

pub returns-in-Some : goal.returns-in-Some
returns-in-Some c =
    let here : c.in-Some.log.now ≡ log_of c.args.self.now c.args.group = search rules in
    subst (λ (l : Log). IfOk c.assign.result (λ q. q ≡ next_places l c.args.process)) here c.assign.ensures
