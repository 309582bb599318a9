use Rattle.std.proofs.Common.{◌≡◌, ◌∙◌, sym, ap, true, false}
use Rattle.std.specs.Prelude.{if◌then◌else◌}
use Rattle.std.proofs.lemmas.Result.{on_ok_weaker}
use Rattle.cast_types.specs.Names.{entry_of}
use Rattle.cast_order.specs.Log.{change_log, log_of, next_in, pass_ids}
use Rattle.cast_delay.specs.Queue.{passed_in}
use Rattle.cast_domain.specs.Records.{records_of}
use Rattle.cast_domain.specs.RestCalls.{sets_order_in, told_in}
use Rattle.cast_rest.proofs.order.note_delivery.Goals as goal

pub returns-clause-made : goal.returns-clause-made
returns-clause-made c =
    let u = c.args.id in
    let p = c.args.process in
    let d = c.args.domain.now in
    on_ok_weaker c.pass.result
    (λ made o part.
    let r = records_of d part o in
    let other : sets_order_in r u.group p ≡ false = sym (c.sets_order.ensures o part) ∙ c.if-sets_order.false in
    λ i. record r {
      orders = (
          made
          ∙ ap (λ n. change_log u.group (pass_ids p n) r.orders)
          (c.delivered_prefix-passed.ensures.value ∙ ap (passed_in r.delay p u.group u.view) c.next-ids.ensures)
          ∙ sym (ap (λ b. if b then told_in u.group p (entry_of u) r.orders else change_log u.group
          (pass_ids p (passed_in r.delay p u.group u.view (next_in (log_of r.orders u.group) p))) r.orders) other)) i;
    })
    c.pass.ensures

pub returns-then-sets_order-clause-made : goal.returns-then-sets_order-clause-made
returns-then-sets_order-clause-made c =
    let u = c.args.id in
    let p = c.args.process in
    let d = c.args.domain.now in
    on_ok_weaker c.tell_delivery.result
    (λ made o part.
    let r = records_of d part o in
    let sets : sets_order_in r u.group p ≡ true = sym (c.sets_order.ensures o part) ∙ c.if-sets_order.true in
    made o part
    ∙ sym (ap (λ b. record r {
      orders = if b then told_in u.group p (entry_of u) r.orders
          else change_log u.group (pass_ids p (passed_in r.delay p u.group u.view (next_in (log_of r.orders u.group) p))) r.orders;
    }) sets))
    c.tell_delivery.ensures.made
