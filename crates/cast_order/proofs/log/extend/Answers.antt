use Rattle.std.proofs.Common.{◌≡◌, ◌+◌, ◌-◌, ◌++◌, length, Some, sym, ap, ◌∙◌, arith}
use Rattle.std.proofs.lemmas.List.{length_push}
use Rattle.cast_types.specs.declared.limits.TheConstants.{MAX_POSITION}
use Rattle.cast_order.specs.Order.{id_at, order_from}
use Rattle.cast_order.proofs.Steps.{one_more, no_more}
use Rattle.cast_order.proofs.log.extend.Goals as goal

pub loop-place-preserved : goal.loop-place-preserved
loop-place-preserved c =
    let known = c.loop-place.window.items in
    let place = c.loop-place.place in
    let facts = c.args.facts.now.entries in
    let told : id_at facts place ≡ Some c.in-Some.id = sym c.id_at.ensures ∙ c.in-Some.is in
    let grown = ap length c.in_ok-push.ensures.items ∙ length_push known c.in-Some.id in
    record {
      here = omega arith;
      rest =
          ap (λ front. front ++ order_from (MAX_POSITION + 1 - (place + 1)) (place + 1) facts) c.in_ok-push.ensures.items
          ∙ one_more facts known _ (MAX_POSITION + 1) place c.in-Some.id told c.loop-place-test.true c.loop-place.invariant.rest;
    }

pub returns-in_default : goal.returns-in_default
returns-in_default c =
    no_more c.args.facts.now.entries c.loop-place.window.items _ (MAX_POSITION + 1 - c.loop-place.place)
    c.loop-place.place (sym c.id_at.ensures ∙ c.in_default.is) c.loop-place.invariant.rest
