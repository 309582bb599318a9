-- Runs of a domain, one more step at their end.
use Rattle.std.proofs.Common.{◌≡◌, ℕ, suc, List, [], ◌∷◌, ◌++◌, length, refl, sym, ap, subst, ◌∙◌, append_assoc}
use Rattle.std.proofs.lemmas.List.{append-nil}
use Rattle.cast_types.specs.declared.names.SiteNo.{SiteNo}
use Rattle.cast_message.specs.declared.client.Push.{Push}
use Rattle.cast_message.specs.declared.site.SiteFrame.{SiteFrame}
use Rattle.cast_events.specs.declared.event.Event.{Event}
use Rattle.cast_events.specs.declared.event.Taken.{Taken}
use Rattle.cast_rules.specs.State.{State}
use Rattle.cast_rules.specs.Run.{IsRun, IsStep}

pub run_more : (s : State) (events : List Event) (answers : List Taken) (sent : List (SiteNo × SiteFrame)) (pushed : List (ℕ × Push))
    (t : State) (e : Event) (a : Taken) (u : State) → IsRun s events answers sent pushed t → IsStep t e a u →
    IsRun s (events ++ e ∷ []) (answers ++ a ∷ []) (sent ++ u.frames) (pushed ++ u.pushes) u
run_more s [] [] sent pushed t e a u run step = (
  u,
  [],
  [],
  subst (λ (x : State). IsStep x e a u) run.2 step,
  ap (λ (front : List (SiteNo × SiteFrame)). front ++ u.frames) run.0 ∙ sym (append-nil u.frames),
  ap (λ (front : List (ℕ × Push)). front ++ u.pushes) run.1 ∙ sym (append-nil u.pushes),
  (refl, refl, refl),
)
run_more s [] (b ∷ answers) sent pushed t e a u run step = absurd run
run_more s (f ∷ events) [] sent pushed t e a u run step = absurd run
run_more s (f ∷ events) (b ∷ answers) sent pushed t e a u run step =
    let more = run_more run.0 events answers run.1 run.2 t e a u run.6 step in (
      run.0,
      run.1 ++ u.frames,
      run.2 ++ u.pushes,
      run.3,
      ap (λ (front : List (SiteNo × SiteFrame)). front ++ u.frames) run.4 ∙ append_assoc run.0.frames run.1 u.frames,
      ap (λ (front : List (ℕ × Push)). front ++ u.pushes) run.5 ∙ append_assoc run.0.pushes run.2 u.pushes,
      more,
    )

pub run_length : (s : State) (events : List Event) (answers : List Taken) (sent : List (SiteNo × SiteFrame)) (pushed : List (ℕ × Push))
    (t : State) → IsRun s events answers sent pushed t → length events ≡ length answers
run_length s [] [] sent pushed t run = refl
run_length s [] (b ∷ answers) sent pushed t run = absurd run
run_length s (f ∷ events) [] sent pushed t run = absurd run
run_length s (f ∷ events) (b ∷ answers) sent pushed t run = ap suc (run_length run.0 events answers run.1 run.2 t run.6)
