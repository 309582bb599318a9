-- What one more event leaves of the answers so far: where it halts domains, nothing is known otherwise of earlier places.
use Rattle.std.proofs.Common.{◌≡◌, ℕ, ◌+◌, ◌<◌, ◌≤◌, Bool, true, false, cond, List, [], ◌∷◌, ◌++◌, map}
use Rattle.std.proofs.Common.{filter, length, Some, None, Result, refl, sym, ap, subst, ◌∙◌, inl, inr, arith}
use Rattle.std.specs.List.{AllZip}
use Rattle.std.proofs.lemmas.Bool.{cases_Bool, ne_eqb, or_parts}
use Rattle.cast_types.specs.declared.names.DomainNo.{DomainNo}
use Rattle.cast_events.specs.declared.config.DomainConfig.{DomainConfig}
use Rattle.cast_events.specs.declared.event.Event.{Event}
use Rattle.cast_events.specs.declared.event.Taken.{Taken}
use Rattle.cast_events.specs.Events.{domain_of}
use Rattle.cast_events.specs.declared.log.Fault.{Fault}
use Rattle.cast_table.specs.Tables.{domain_eq}
use Rattle.cast_table.specs.Owns.{is_configured}
use Rattle.cast_isolation.specs.Replays.{Served, is_halted_at, halted_at, served_as, IsTickAnswer}
use Rattle.cast_isolation.specs.Replays.{IsNamedAnswer, IsAnswerOf, IsAnswerTo, IsAnswer, AreAnswersFrom}

abbrev pub configs_of : List Served → List DomainConfig
configs_of served = map (λ s. s.config) served

-- a domain as it was served, and as it was after an event at this place
pub record IsLater (place : ℕ) (was : Served) (now : Served) : Type 0 where
  pub config : now.config ≡ was.config
  pub halts : (m : ℕ) → m < place → is_halted_at m now ≡ is_halted_at m was
  pub says : (m : ℕ) (a : Result Taken Fault) → m < place → IsNamedAnswer m was.config.domain was.halt a →
      IsNamedAnswer m now.config.domain now.halt a

pub later_same : (place : ℕ) (s : Served) → IsLater place s s
later_same place s = record { config = refl; halts = λ m before. refl; says = λ m a before said. said }

pub later_halted : (place : ℕ) (c : DomainConfig) →
    IsLater place (record { config = c; halt = None }) (record { config = c; halt = Some place })
later_halted place c =
    record {
      config = refl;
      halts = λ m before. ne_eqb place m (λ same. absurd (omega arith));
      says = λ m a before said. (λ at. absurd (omega arith), λ behind. absurd (omega arith));
    }

pub all_same : (place : ℕ) (served : List Served) → AllZip (IsLater place) served served
all_same place [] = tt
all_same place (s ∷ served) = (later_same place s, all_same place served)

pub later_configs : (place : ℕ) (was now : List Served) → AllZip (IsLater place) was now → configs_of now ≡ configs_of was
later_configs place [] [] later = refl
later_configs place [] (t ∷ now) later = absurd later
later_configs place (s ∷ was) [] later = absurd later
later_configs place (s ∷ was) (t ∷ now) later = λ i. later.0.config i ∷ later_configs place was now later.1 i

-- Which domains were halted at a place

-- one domain, where it was halted there
abbrev pub number_halted : ℕ → Served → List DomainNo
number_halted place s = cond (is_halted_at place s) (s.config.domain ∷ []) []

chosen : (b : Bool) (s : Served) (served : List Served) → map (λ (t : Served). t.config.domain) (cond b (s ∷ served) served)
    ≡ cond b (s.config.domain ∷ []) [] ++ map (λ (t : Served). t.config.domain) served
chosen true s served = refl
chosen false s served = refl

pub halted_first : (place : ℕ) (s : Served) (served : List Served) →
    halted_at place (s ∷ served) ≡ number_halted place s ++ halted_at place served
halted_first place s served = chosen (is_halted_at place s) s (filter (is_halted_at place) served)

-- Answers so far

module _ (place : ℕ) (m : ℕ) (before : m < place) where
  halted_stays : (was now : List Served) → AllZip (IsLater place) was now → halted_at m now ≡ halted_at m was
  halted_stays [] [] later = refl
  halted_stays [] (t ∷ now) later = absurd later
  halted_stays (s ∷ was) [] later = absurd later
  halted_stays (s ∷ was) (t ∷ now) later =
      halted_first m t now
      ∙ (λ i. cond (later.0.halts m before i) ((later.0.config i).domain ∷ []) [] ++ halted_stays was now later.1 i)
      ∙ sym (halted_first m s was)

  named_stays : (d : DomainNo) (a : Result Taken Fault) (was now : List Served) → AllZip (IsLater place) was now →
      IsAnswerOf m (served_as d was) a → IsAnswerOf m (served_as d now) a
  named_stays d a [] [] later said = said
  named_stays d a [] (t ∷ now) later said = absurd later
  named_stays d a (s ∷ was) [] later said = absurd later
  named_stays d a (s ∷ was) (t ∷ now) later said =
      let alike : domain_eq t.config.domain d ≡ domain_eq s.config.domain d =
      ap (λ (c : DomainConfig). domain_eq c.domain d) later.0.config in
      elim (cases_Bool (domain_eq s.config.domain d)) [
        | inl named ↦
            subst (λ b. IsAnswerOf m (cond b (Some t) (served_as d now)) a) (sym (alike ∙ named))
            (later.0.says m a before (subst (λ b. IsAnswerOf m (cond b (Some s) (served_as d was)) a) named said))
        | inr other ↦
            subst (λ b. IsAnswerOf m (cond b (Some t) (served_as d now)) a) (sym (alike ∙ other))
            (named_stays d a was now later.1 (subst (λ b. IsAnswerOf m (cond b (Some s) (served_as d was)) a) other said))
      ]

  answer_stays : (e : Event) (a : Result Taken Fault) (was now : List Served) → AllZip (IsLater place) was now → IsAnswer was m e a →
      IsAnswer now m e a
  answer_stays e a was now later =
      elim (domain_of e) as (λ o. IsAnswerTo o was m a → IsAnswerTo o now m a) [
        | None ↦ subst (λ halted. IsTickAnswer halted a) (sym (halted_stays was now later))
        | Some d ↦ named_stays d a was now later
      ]

pub answers_stay : (place m : ℕ) (events : List Event) (answers : List (Result Taken Fault)) (was now : List Served) →
    m + length events ≤ place → AllZip (IsLater place) was now → AreAnswersFrom m was events answers → AreAnswersFrom m now events answers
answers_stay place m [] [] was now within later said = said
answers_stay place m [] (a ∷ answers) was now within later said = absurd said
answers_stay place m (e ∷ events) [] was now within later said = absurd said
answers_stay place m (e ∷ events) (a ∷ answers) was now within later said = (
  answer_stays place m (omega arith) e a was now later said.0,
  answers_stay place (m + 1) events answers was now (omega arith) later said.1,
)

-- one more answer
pub answers_more : (place m : ℕ) (events : List Event) (answers : List (Result Taken Fault)) (e : Event) (a : Result Taken Fault)
    (served : List Served) → m + length events ≡ place → AreAnswersFrom m served events answers → IsAnswer served place e a →
    AreAnswersFrom m served (events ++ e ∷ []) (answers ++ a ∷ [])
answers_more place m [] [] e a served there said more =
    let here : place ≡ m = omega arith in
    (subst (λ n. IsAnswer served n e a) here more, said)
answers_more place m [] (b ∷ answers) e a served there said more = absurd said
answers_more place m (f ∷ events) [] e a served there said more = absurd said
answers_more place m (f ∷ events) (b ∷ answers) e a served there said more =
    (said.0, answers_more place (m + 1) events answers e a served (omega arith) said.1 more)

-- where no domain of a number is configured, none was served
pub none_served : (n : DomainNo) (served : List Served) → is_configured n (configs_of served) ≡ false → served_as n served ≡ None
none_served n [] none = refl
none_served n (s ∷ served) none =
    let parts = or_parts (domain_eq s.config.domain n) (is_configured n (configs_of served)) none in
    ap (λ b. cond b (Some s) (served_as n served)) parts.0 ∙ none_served n served parts.1
