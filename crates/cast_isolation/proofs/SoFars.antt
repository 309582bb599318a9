-- All that holds of a table after the events so far.
use Rattle.std.proofs.Common.{◌≡◌, ◌≢◌, ℕ, true, false, List, [], ◌∷◌, ◌++◌, length, Some, None}
use Rattle.std.proofs.Common.{Result, Ok, Err, refl, sym, ap, subst, ◌∙◌, append_assoc, arith}
use Rattle.std.specs.List.{AllZip}
use Rattle.std.specs.Option.{option_map_or}
use Rattle.std.proofs.lemmas.Bool.{false≢true}
use Rattle.std.proofs.lemmas.List.{append-nil}
use Rattle.cast_types.proofs.Zips.{zip_length, zip_push}
use Rattle.cast_types.specs.declared.names.DomainNo.{DomainNo}
use Rattle.cast_types.specs.declared.names.SiteNo.{SiteNo}
use Rattle.cast_events.specs.declared.config.Config.{Config}
use Rattle.cast_events.specs.declared.config.DomainConfig.{DomainConfig}
use Rattle.cast_domain.specs.declared.domain.Domain.{Domain}
use Rattle.cast_events.specs.declared.event.Event.{Event}
use Rattle.cast_events.specs.declared.event.Taken.{Taken}
use Rattle.cast_events.specs.Events.{domain_of}
use Rattle.cast_events.specs.Outs.{no_outs}
use Rattle.cast_domain.specs.Shared.{part_of, no_part}
use Rattle.cast_events.specs.declared.log.Fault.{Fault}
use Rattle.cast_events.specs.declared.log.Fault.TheVariants.{NoMemory, Halted, NoDomain}
use Rattle.cast_table.specs.Tables.{domain_eq, by_number, IsNew, IsTurn, IsAppliedAt, IsAppliedTo, IsApplied}
use Rattle.cast_table.specs.Tables.{IsTicked, AreApplied, AreTurns, Lent, place_named, halted_in_turn}
use Rattle.cast_table.specs.Owns.{is_configured, are_distinct, have_rising_groups}
use Rattle.cast_table.proofs.Places.{IsNumbered, named_there}
use Rattle.cast_isolation.specs.Replays.{Served, finds_domain, served_as, IsTickAnswer, IsAnswerOf}
use Rattle.cast_isolation.specs.Replays.{IsAnswerTo, IsAnswer, AreAnswers, TellsNoDomain}
use Rattle.cast_isolation.proofs.Numbered.{configured_at, none_configured, numbered_set, zip_at}
use Rattle.cast_isolation.proofs.Later.{IsLater, configs_of, all_same, later_configs, answers_stay, answers_more, none_served}
use Rattle.cast_isolation.proofs.Served.{HasGiven, unhalted, unhalted_configs, all_new_given, keeps_same, turn_keeps, turn_number}
use Rattle.cast_isolation.proofs.Named.{all_other_given, turn_given}
use Rattle.cast_isolation.proofs.Ticked.{turns_given, turns_numbered}

-- with the domains in order of number, as a table has them
abbrev pub ordered : Config → Config
ordered config = record config { domains = by_number config.domains }

-- how the domains of these configurations were served
pub record AreServed (config : Config) (events : List Event) (answers : List (Result Taken Fault)) (l : Lent)
    (ds : List Domain) : Type 0 where
  pub served : List Served
  pub configured : configs_of served ≡ config.domains
  pub given : AllZip (HasGiven config.site events answers l) served ds
  pub answered : AreAnswers served events answers

pub record SoFar (config : Config) (events : List Event) (answers : List (Result Taken Fault)) (l : Lent) (ds : List Domain) : Type 0 where
  pub numbers : AllZip IsNumbered config.domains ds
  pub named : AllZip (TellsNoDomain config.domains) events answers
  pub serves : are_distinct config.domains ≡ true → have_rising_groups config.domains ≡ true → AreServed config events answers l ds

new_numbered : (here : SiteNo) (cs : List DomainConfig) (ds : List Domain) → AllZip (IsNew here) cs ds → AllZip IsNumbered cs ds
new_numbered here [] [] new = new
new_numbered here [] (d ∷ ds) new = absurd new
new_numbered here (c ∷ cs) [] new = absurd new
new_numbered here (c ∷ cs) (d ∷ ds) new = (new.0.number, new_numbered here cs ds new.1)

so_far_none : (config : Config) (l : Lent) (ds : List Domain) → l.outs ≡ no_outs → ((q : DomainNo) → part_of q l.shared ≡ no_part) →
    AllZip (IsNew config.site) config.domains ds → SoFar config [] [] l ds
so_far_none config l ds none unshared new =
    record {
      numbers = new_numbered config.site config.domains ds new;
      named = tt;
      serves = λ distinct rising.
          record {
            served = unhalted config.domains;
            configured = unhalted_configs config.domains;
            given = all_new_given config.site l none unshared config.domains ds rising new;
            answered = tt;
          };
    }

-- one more answer, where domains were served so after it
all_more : (config : Config) (events : List Event) (answers : List (Result Taken Fault)) (e : Event) (a : Result Taken Fault)
    (was now : List Served) (l : Lent) (ds : List Domain) → configs_of was ≡ config.domains → AreAnswers was events answers →
    AllZip (IsLater (length events)) was now → AllZip (HasGiven config.site (events ++ e ∷ []) (answers ++ a ∷ []) l) now ds →
    IsAnswer now (length events) e a → AreServed config (events ++ e ∷ []) (answers ++ a ∷ []) l ds
all_more config events answers e a was now l ds configured answered later given answer =
    record {
      served = now;
      configured = later_configs (length events) was now later ∙ configured;
      given = given;
      answered =
          answers_more (length events) 0 events answers e a now (omega arith)
          (answers_stay (length events) 0 events answers was now (omega arith) later answered) answer;
    }

not_named : (a : Result Taken Fault) (e : Event) (old new : Domain) (before after : Lent) → IsTurn a e old new before after →
    a ≡ Err NoDomain → ⊥
not_named a e old new before after turn is = subst (λ x. IsTurn x e old new before after) is turn

-- What a tick is answered

module _ (e : Event) (old new : List Domain) (before after : Lent) where
  ticked_turns : (a : Result Taken Fault) → a ≢ Err NoMemory → IsTicked a e old new before after → AreTurns e old new before after
  ticked_turns (Ok t) begun ticked = ticked.2
  ticked_turns (Err NoMemory) begun ticked = absurd (begun refl)
  ticked_turns (Err (Halted m)) begun ticked = ticked.1
  ticked_turns (Err NoDomain) begun ticked = absurd ticked

  ticked_answer : (a : Result Taken Fault) → a ≢ Err NoMemory → IsTicked a e old new before after → IsTickAnswer (halted_in_turn old new) a
  ticked_answer (Ok t) begun ticked = (ticked.0, ticked.1)
  ticked_answer (Err NoMemory) begun ticked = absurd (begun refl)
  ticked_answer (Err (Halted m)) begun ticked = ticked.0
  ticked_answer (Err NoDomain) begun ticked = absurd ticked

  ticked_named : (a : Result Taken Fault) → IsTicked a e old new before after → a ≡ Err NoDomain → ⊥
  ticked_named a ticked is = subst (λ x. IsTicked x e old new before after) is ticked

module _ (config : Config) (events : List Event) (answers : List (Result Taken Fault)) (e : Event) (a : Result Taken Fault)
    (old new : List Domain) (before after : Lent) (begun : a ≢ Err NoMemory) (so_far : SoFar config events answers before old) where
  abbrev More : Type 0
  More = SoFar config (events ++ e ∷ []) (answers ++ a ∷ []) after new

  abbrev Serves : Type 0
  Serves = AreServed config (events ++ e ∷ []) (answers ++ a ∷ []) after new

  long : length events ≡ length answers
  long = zip_length (TellsNoDomain config.domains) events answers so_far.named

  -- premises of the configuration, said of the domains as they were served
  served_distinct : (was : AreServed config events answers before old) → are_distinct config.domains ≡ true →
      are_distinct (configs_of was.served) ≡ true
  served_distinct was distinct = ap are_distinct was.configured ∙ distinct

  serves_ticked : domain_of e ≡ None → IsTicked a e old new before after → are_distinct config.domains ≡ true →
      AreServed config events answers before old → Serves
  serves_ticked tick ticked distinct was =
      let turned =
      turns_given config.site events answers e a long tick was.served old new before after (served_distinct was distinct)
      (ticked_turns e old new before after a begun ticked) was.given in
      let answer : IsAnswerTo None turned.now (length events) a =
      subst (λ halted. IsTickAnswer halted a) (sym turned.halts) (ticked_answer e old new before after a begun ticked) in
      all_more config events answers e a was.served turned.now after new was.configured was.answered turned.later turned.given
      (subst (λ o. IsAnswerTo o turned.now (length events) a) (sym tick) answer)

  more_ticked : domain_of e ≡ None → IsTicked a e old new before after → More
  more_ticked tick ticked =
      let finds : finds_domain e config.domains ≡ true = ap (λ o. option_map_or (λ d. is_configured d config.domains) o true) tick in
      record {
        numbers = turns_numbered e config.domains old new before after (ticked_turns e old new before after a begun ticked) so_far.numbers;
        named =
            zip_push (TellsNoDomain config.domains) events answers e a so_far.named
            (λ is. absurd (ticked_named e old new before after a ticked is), λ none. absurd (false≢true (sym none ∙ finds)));
        serves = λ distinct rising. serves_ticked tick ticked distinct (so_far.serves distinct rising);
      }

  module _ (n : DomainNo) (is : domain_of e ≡ Some n) where
    finds_is : finds_domain e config.domains ≡ is_configured n config.domains
    finds_is = ap (λ o. option_map_or (λ d. is_configured d config.domains) o true) is

    answer_is : (now : List Served) → IsAnswerOf (length events) (served_as n now) a → IsAnswer now (length events) e a
    answer_is now answer = subst (λ o. IsAnswerTo o now (length events) a) (sym is) answer

    serves_nowhere : is_configured n config.domains ≡ false → IsAppliedAt None a e old new before after →
        AreServed config events answers before old → Serves
    serves_nowhere none applied was =
        let apart : is_configured n (configs_of was.served) ≡ false = ap (is_configured n) was.configured ∙ none in
        let given =
        all_other_given config.site events answers e a long n is before after (λ q other. keeps_same q before after applied.2)
        was.served old apart was.given in
        all_more config events answers e a was.served was.served after new was.configured was.answered (all_same (length events) was.served)
        (subst (AllZip (HasGiven config.site (events ++ e ∷ []) (answers ++ a ∷ []) after) was.served) (sym applied.1) given)
        (answer_is was.served (subst (λ o. IsAnswerOf (length events) o a) (sym (none_served n was.served apart)) applied.0))

    more_nowhere : None ≡ place_named n old → IsAppliedAt None a e old new before after → More
    more_nowhere found applied =
        let none = none_configured n 0 config.domains old so_far.numbers found in
        record {
          numbers = subst (AllZip IsNumbered config.domains) (sym applied.1) so_far.numbers;
          named = zip_push (TellsNoDomain config.domains) events answers e a so_far.named (λ _. finds_is ∙ none, λ _. applied.0);
          serves = λ distinct rising. serves_nowhere none applied (so_far.serves distinct rising);
        }

    serves_there : (place : ℕ) → Some place ≡ place_named n old → IsAppliedAt (Some place) a e old new before after →
        are_distinct config.domains ≡ true → AreServed config events answers before old → Serves
    serves_there place found applied distinct was =
        let number = named_there n old place applied.domain found applied.stands in
        let one = zip_at (HasGiven config.site events answers before) was.served old place applied.domain was.given applied.stands in
        let same : one.0.config.domain ≡ n = sym one.1.served.domain ∙ number in
        let turned =
        turn_given config.site events answers e a long n is before after
        (λ q other. turn_keeps config.site events answers e one.0 applied.domain applied.next before after one.1 a applied.turn q
        (ap (λ d. domain_eq d q) same ∙ other))
        begun applied.domain applied.next number applied.turn
        was.served old place (served_distinct was distinct) was.given applied.stands in
        all_more config events answers e a was.served turned.now after new was.configured was.answered turned.later
        (subst (AllZip (HasGiven config.site (events ++ e ∷ []) (answers ++ a ∷ []) after) turned.now) (sym applied.others) turned.given)
        (answer_is turned.now turned.answer)

    more_there : (place : ℕ) → Some place ≡ place_named n old → IsAppliedAt (Some place) a e old new before after → More
    more_there place found applied =
        let number = named_there n old place applied.domain found applied.stands in
        let there : is_configured n config.domains ≡ true =
        ap (λ d. is_configured d config.domains) (sym number)
        ∙ configured_at config.domains old place applied.domain so_far.numbers applied.stands in
        record {
          numbers =
              subst (AllZip IsNumbered config.domains) (sym applied.others)
              (numbered_set config.domains old place applied.domain applied.next so_far.numbers applied.stands
              (turn_number a e applied.domain applied.next before after applied.turn));
          named =
              zip_push (TellsNoDomain config.domains) events answers e a so_far.named (
                λ bad. absurd (not_named a e applied.domain applied.next before after applied.turn bad),
                λ none. absurd (false≢true (sym none ∙ finds_is ∙ there)),
              );
          serves = λ distinct rising. serves_there place found applied distinct (so_far.serves distinct rising);
        }

    more_named : IsAppliedAt (place_named n old) a e old new before after → More
    more_named applied =
        elim (place_named n old) as (λ o. o ≡ place_named n old → IsAppliedAt o a e old new before after → More) [
          | None ↦ more_nowhere
          | Some place ↦ more_there place
        ] refl applied

  so_far_more : IsApplied a e old new before after → More
  so_far_more applied =
      elim (domain_of e) as (λ o. domain_of e ≡ o → IsAppliedTo o a e old new before after → More) [
        | None ↦ more_ticked
        | Some n ↦ more_named n
      ] refl applied

-- and many
so_far_each : (config : Config) (events : List Event) (answers : List (Result Taken Fault)) (l : Lent) (ds : List Domain) →
    SoFar config events answers l ds → (said : List (Result Taken Fault)) (more : List Event) (new : List Domain) (after : Lent) →
    AreApplied said more ds new l after → SoFar config (events ++ more) (answers ++ said) after new
so_far_each config events answers l ds so_far [] [] new after applied =
    let same = subst (λ ns. SoFar config events answers l ns) (sym applied.0) so_far in
    let there = subst (λ k. SoFar config events answers k new) (sym applied.1) same in
    subst (λ es. SoFar config es (answers ++ []) after new) (sym (append-nil events))
    (subst (λ told. SoFar config events told after new) (sym (append-nil answers)) there)
so_far_each config events answers l ds so_far [] (e ∷ more) new after applied = absurd applied
so_far_each config events answers l ds so_far (a ∷ said) [] new after applied = absurd applied
so_far_each config events answers l ds so_far (a ∷ said) (e ∷ more) new after applied =
    let one = so_far_more config events answers e a ds applied.1 l applied.2 applied.0 so_far applied.3 in
    let rest = so_far_each config (events ++ e ∷ []) (answers ++ a ∷ []) applied.2 applied.1 one said more new after applied.4 in
    subst (λ es. SoFar config es (answers ++ a ∷ said) after new) (append_assoc events (e ∷ []) more)
    (subst (λ told. SoFar config ((events ++ e ∷ []) ++ more) told after new) (append_assoc answers (a ∷ []) said) rest)

-- all, from new domains on
pub so_far_all : (config : Config) (events : List Event) (answers : List (Result Taken Fault)) (first last : Lent)
    (olds news : List Domain) → first.outs ≡ no_outs → ((q : DomainNo) → part_of q first.shared ≡ no_part) →
    AllZip (IsNew config.site) config.domains olds → AreApplied answers events olds news first last → SoFar config events answers last news
so_far_all config events answers first last olds news none unshared new applied =
    so_far_each config [] [] first olds (so_far_none config first olds none unshared new) answers events news last applied
