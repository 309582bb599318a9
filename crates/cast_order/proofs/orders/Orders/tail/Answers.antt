use Rattle.std.proofs.Common.{◌≡◌, subst, rules}
use Rattle.std.specs.Prelude.{IfOk}
use Rattle.cast_order.specs.Log.{Log, log_of, tail_start_in, tail_ids_in}
use Rattle.cast_order.proofs.orders.Orders.tail.Goals as goal

pub returns-in-Some : goal.returns-in-Some
returns-in-Some c =
    let here : c.in-Some.log.now ≡ log_of c.args.self.now c.args.group = search rules in
    subst (λ (l : Log). IfOk c.tail.result (λ t. t ≡ (tail_start_in l c.args.holder, tail_ids_in l c.args.holder))) here c.tail.ensures
