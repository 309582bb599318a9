-- What an event does to a table of one domain, of which it names the number, or none: the domain makes its step.
use Rattle.std.proofs.Common.{ap, subst, sym, ◌∙◌}
use Rattle.std.proofs.lemmas.Bool.{eq-eqb, eqb-true}
use Rattle.std.specs.List.{AllZip, position_from}
use Rattle.std.specs.Option.{option_map_or}
use Rattle.std.specs.Prelude.{◌++◌, ◌==◌, Bool, Err, List, None, Ok, Option, Some, [], cond, false, map, refl, true, ◌∷◌, ◌≡◌}
use Rattle.cast_domain.specs.Records.{is_halted, number_of}
use Rattle.cast_domain.specs.Stepped.{IsStepped}
use Rattle.cast_domain.specs.declared.domain.Domain.{Domain}
use Rattle.cast_events.specs.Events.{domain_of}
use Rattle.cast_events.specs.declared.config.DomainConfig.{DomainConfig}
use Rattle.cast_events.specs.declared.event.Event.{Event}
use Rattle.cast_events.specs.declared.event.Taken.{Taken}
use Rattle.cast_events.specs.declared.event.Taken.TheVariants.{Nothing, Refused}
use Rattle.cast_events.specs.declared.log.Fault.TheVariants.{Halted, NoDomain}
use Rattle.cast_types.specs.declared.names.DomainNo.{DomainNo}
use Rattle.cast_types.specs.declared.names.SiteNo.{SiteNo}
use Rattle.cast_types.specs.declared.refusal.Refusal.TheVariants as refusal
use Rattle.cast_table.specs.Tables.{AreTurns, IsApplied, IsAppliedAt, IsAppliedTo, IsNew, IsTaken, IsTicked, IsTurn, IsTurnAt}
use Rattle.cast_table.specs.Tables.{Lent, answer_in_turn, domain_eq, halted_by, part_in, place_named, halted_in_turn}
use Rattle.cast_world.specs.Network.{names}

-- the only domain of a table made its step, and runs on
pub record StepsAlone (e : Event) (taken : Taken) (old : Domain) (news : List Domain) (before : Lent) (after : Lent) : Type 0 where
  pub domain : Domain
  pub served : news ≡ domain ∷ []
  pub number : number_of domain ≡ number_of old
  pub running : is_halted domain ≡ false
  pub steps : IsStepped old (part_in before old) e taken domain (part_in after old) before.outs after.outs

some_is : {X : Type 0} (x y : X) → Some x ≡ Some y → x ≡ y
some_is x y e = cc

-- the first of these numbers
abbrev head : List DomainNo → Option DomainNo
head [] = None
head (n ∷ numbers) = Some n

-- a table of one domain has its number
pub number_alone : (d : Domain) (others : List Domain) (number : DomainNo) → map number_of (d ∷ others) ≡ number ∷ [] → number_of d ≡ number
number_alone d others number alone = some_is (number_of d) number (ap head alone)

-- the domain that the event names stands first
first_alone : (d : DomainNo) (o : Domain) (others : List Domain) → (d.0 == (number_of o).0) ≡ true → place_named d (o ∷ others) ≡ Some 0
first_alone d o others named =
    ap (λ b. cond b (Some 0) (position_from (λ x. domain_eq (number_of x) d) 1 others))
    (eq-eqb (number_of o).0 d.0 (sym (eqb-true d.0 (number_of o).0 named)))

-- so there is one
pub never_nowhere : (e : Event) (number : DomainNo) (olds news : List Domain) (before after : Lent) → map number_of olds ≡ number ∷ [] →
    names number e ≡ true → IsApplied (Err NoDomain) e olds news before after → ⊥
never_nowhere e number [] news before after alone named applied = none_alone alone
  where
    none_alone : [] ≡ number ∷ [] → ⊥
    none_alone alone = cc
never_nowhere e number (o ∷ others) news before after alone named applied = go (domain_of e) named applied
  where
    go : (o' : Option DomainNo) → option_map_or (λ d. d.0 == number.0) o' true ≡ true →
        IsAppliedTo o' (Err NoDomain) e (o ∷ others) news before after → ⊥
    go None own ticked = ticked
    go (Some d) own at =
        let here : place_named d (o ∷ others) ≡ Some 0 =
        first_alone d o others (ap (λ n. d.0 == n.0) (number_alone o others number alone) ∙ own) in
        (subst (λ place. IsAppliedAt place (Err NoDomain) e (o ∷ others) news before after) here at).turn

-- Its step

module _ (e : Event) (taken : Taken) (old : Domain) (running : is_halted old ≡ false) (before after : Lent) where
  took : (new : Domain) → IsTaken old e taken new before after → StepsAlone e taken old (new ∷ []) before after
  took new turn = record { domain = new; served = refl; number = turn.number; running = turn.halted ∙ running; steps = turn.steps running }

  took_there : (news : List Domain) → IsTurnAt 0 (Ok taken) e (old ∷ []) news before after → StepsAlone e taken old news before after
  took_there news at =
      subst (λ ds. StepsAlone e taken old ds before after) (sym at.others)
      (took at.next (subst (λ d. IsTaken d e taken at.next before after) (sym (some_is old at.domain at.stands)) at.turn))

  -- at a tick; a domain that it halts is told of
  took_turn : (new : Domain) → taken ≡ Nothing → halted_in_turn (old ∷ []) (new ∷ []) ≡ [] → AreTurns e (old ∷ []) (new ∷ []) before after →
      StepsAlone e taken old (new ∷ []) before after
  took_turn new nothing none turns = go (is_halted new) refl
    where
      answers : (b : Bool) → is_halted new ≡ b → answer_in_turn old new ≡ cond b (Err (Halted (number_of old))) (Ok Nothing)
      answers b is i = cond (running i) (Ok (Refused refusal.Halted)) (cond (is i) (Err (Halted (number_of old))) (Ok Nothing))

      one_is_none : number_of old ∷ [] ≡ [] → ⊥
      one_is_none e = cc

      go : (b : Bool) → is_halted new ≡ b → StepsAlone e taken old (new ∷ []) before after
      go true halts = absurd (one_is_none (sym (ap (λ a. halted_by a ++ []) (answers true halts)) ∙ none))
      go false runs =
          let turn : IsTaken old e Nothing new before turns.0 =
          subst (λ a. IsTurn a e old new before turns.0) (answers false runs) turns.1 in
          took new
          (subst (λ t. IsTaken old e t new before after) (sym nothing) (subst (λ l. IsTaken old e Nothing new before l) (sym turns.2) turn))

  took_tick : (news : List Domain) → IsTicked (Ok taken) e (old ∷ []) news before after → StepsAlone e taken old news before after
  took_tick [] ticked = absurd ticked.2
  took_tick (new ∷ []) ticked = took_turn new ticked.0 ticked.1 ticked.2
  took_tick (new ∷ n ∷ news) ticked = absurd ticked.2.2

  pub steps_alone : (news : List Domain) → names (number_of old) e ≡ true → IsApplied (Ok taken) e (old ∷ []) news before after →
      StepsAlone e taken old news before after
  steps_alone news named applied = go (domain_of e) named applied
    where
      go : (o : Option DomainNo) → option_map_or (λ d. d.0 == (number_of old).0) o true ≡ true →
          IsAppliedTo o (Ok taken) e (old ∷ []) news before after → StepsAlone e taken old news before after
      go None own ticked = took_tick news ticked
      go (Some d) own at =
          took_there news (subst (λ place. IsAppliedAt place (Ok taken) e (old ∷ []) news before after) (first_alone d old [] own) at)

-- Before its first event

pub record BeginsAlone (here : SiteNo) (config : DomainConfig) (domains : List Domain) : Type 0 where
  pub domain : Domain
  pub served : domains ≡ domain ∷ []
  pub new : IsNew here config domain

pub begins_alone : (here : SiteNo) (config : DomainConfig) (domains : List Domain) → AllZip (IsNew here) (config ∷ []) domains →
    BeginsAlone here config domains
begins_alone here config [] new = absurd new
begins_alone here config (d ∷ []) new = record { domain = d; served = refl; new = new.0 }
begins_alone here config (d ∷ x ∷ others) new = absurd new.1
