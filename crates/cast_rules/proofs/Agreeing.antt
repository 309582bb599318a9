-- Runs of the same events from the same state are one.
use Rattle.std.proofs.Common.{◌≡◌, ℕ, List, [], ◌∷◌, ◌++◌, sym, subst, ◌∙◌}
use Rattle.cast_events.specs.declared.event.Event.{Event}
use Rattle.cast_events.specs.declared.event.Taken.{Taken}
use Rattle.cast_types.specs.declared.names.SiteNo.{SiteNo}
use Rattle.cast_message.specs.declared.site.SiteFrame.{SiteFrame}
use Rattle.cast_message.specs.declared.client.Push.{Push}
use Rattle.cast_rules.specs.State.{State}
use Rattle.cast_rules.specs.Run.{IsRun, after_event}
use Rattle.cast_rules.specs.Agreeing.{Outcome, RunIsOne}
use Rattle.cast_rules.proofs.Rests.{rests_at_one}

abbrev outcome : List Taken → List (SiteNo × SiteFrame) → List (ℕ × Push) → State → Outcome
outcome answers sent pushed t = record { answers = answers; sent = sent; pushed = pushed; end = t }

runs_alike : (events : List Event) (s : State) (answers others : List Taken) (sent told : List (SiteNo × SiteFrame))
    (pushed given : List (ℕ × Push)) (t u : State) → IsRun s events answers sent pushed t → IsRun s events others told given u →
    outcome answers sent pushed t ≡ outcome others told given u
runs_alike [] s [] [] sent told pushed given t u a b = λ i. outcome [] ((a.0 ∙ sym b.0) i) ((a.1 ∙ sym b.1) i) ((a.2 ∙ sym b.2) i)
runs_alike [] s [] (y ∷ others) sent told pushed given t u a b = absurd b
runs_alike [] s (x ∷ answers) others sent told pushed given t u a b = absurd a
runs_alike (e ∷ events) s [] others sent told pushed given t u a b = absurd a
runs_alike (e ∷ events) s (x ∷ answers) [] sent told pushed given t u a b = absurd b
runs_alike (e ∷ events) s (x ∷ answers) (y ∷ others) sent told pushed given t u (v, later, more, step, sends, pushes, run)
    (w, after, rest, step2, sends2, pushes2, run2) =
    let first : x ≡ y = step.answers ∙ sym step2.answers in
    let same : v ≡ w = rests_at_one (after_event s e) v w step.rests step2.rests in
    let left : outcome answers later more t ≡ outcome others after rest u =
    runs_alike events w answers others later after more rest t u (subst (λ z. IsRun z events answers later more t) same run) run2 in
    (λ i. outcome (x ∷ answers) (sends i) (pushes i) t)
    ∙ (λ i. outcome (first i ∷ (left i).answers) ((same i).frames ++ (left i).sent) ((same i).pushes ++ (left i).pushed) (left i).end)
    ∙ sym (λ i. outcome (y ∷ others) (sends2 i) (pushes2 i) u)

pub run_is_one : RunIsOne
run_is_one s events a b first second = runs_alike events s a.answers b.answers a.sent b.sent a.pushed b.pushed a.end b.end first second
