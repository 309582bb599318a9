-- What a domain gives follows from its configuration and its own events.
use Rattle.std.proofs.Common.{◌≡◌, List, Ok, map, sym, ap, subst, ◌∙◌}
use Rattle.cast_events.specs.declared.event.Event.{Event}
use Rattle.cast_rules.specs.State.{opening}
use Rattle.cast_rules.specs.Agreeing.{Outcome, RunsAs}
use Rattle.cast_rules.proofs.Agreeing.{run_is_one}
use Rattle.cast_isolation.specs.Replays.{by_session, named_answers, own}
use Rattle.cast_isolation.specs.Laws.{OwnEventsDecide}

pub own_events_decide : OwnEventsDecide
own_events_decide here config events others answers told g h same x y =
    let first : Outcome = record { answers = x.taken; sent = g.sent; pushed = x.pushed; end = x.end } in
    let second : Outcome = record { answers = y.taken; sent = h.sent; pushed = y.pushed; end = y.end } in
    let one : first ≡ second =
    run_is_one (opening here config) (own config.domain others)
    first second (subst (λ (es : List Event). RunsAs (opening here config) es first) same x.runs) y.runs in (
      (λ i. record {
        domain = (x.domain ∙ sym y.domain) i;
        pushes = (x.pushes ∙ ap (λ (o : Outcome). by_session o.pushed) one ∙ sym y.pushes) i;
        sent = (one i).sent;
        halted = (x.shown ∙ sym y.shown) i;
      }),
      x.answered ∙ (λ i. map Ok (named_answers config.domain (same i) (one i).answers)) ∙ sym y.answered,
    )
