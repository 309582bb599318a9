-- One more event, which names a domain, over all domains.
use Rattle.std.proofs.Common.{◌≡◌, ◌≢◌, ℕ, zero, suc, true, false, cond, not, List, [], ◌∷◌, ◌++◌}
use Rattle.std.proofs.Common.{length, Some, Result, Err, slice_set, refl, sym, ap, subst, ◌∙◌}
use Rattle.std.specs.Prelude.{slice_get}
use Rattle.std.specs.List.{AllZip}
use Rattle.std.specs.Option.{option_map_or}
use Rattle.std.proofs.lemmas.Bool.{false≢true, and_parts, not-true, false_from_ne_true, or_parts}
use Rattle.cast_types.specs.declared.names.DomainNo.{DomainNo}
use Rattle.cast_types.specs.declared.names.SiteNo.{SiteNo}
use Rattle.cast_domain.specs.declared.domain.Domain.{Domain}
use Rattle.cast_events.specs.declared.event.Event.{Event}
use Rattle.cast_events.specs.declared.event.Taken.{Taken}
use Rattle.cast_events.specs.Events.{domain_of}
use Rattle.cast_domain.specs.Records.{number_of}
use Rattle.cast_events.specs.declared.log.Fault.{Fault}
use Rattle.cast_events.specs.declared.log.Fault.TheVariants.{NoMemory}
use Rattle.cast_table.specs.Tables.{domain_eq, IsTurn, Lent}
use Rattle.cast_table.specs.Owns.{is_configured, are_distinct, is_own}
use Rattle.cast_table.proofs.Parts.{same_domain, domain_itself, domain_flipped}
use Rattle.cast_table.proofs.Places.{none_some, same_some}
use Rattle.cast_isolation.specs.Replays.{Served, served_as, IsAnswerOf}
use Rattle.cast_isolation.proofs.Numbered.{configured_at}
use Rattle.cast_isolation.proofs.Later.{IsLater, configs_of, later_same, all_same}
use Rattle.cast_isolation.proofs.Served.{HasGiven, Keeps, kept_given, other_event, halt_after, own_turn, all_numbered}

module _ (here : SiteNo) (events : List Event) (answers : List (Result Taken Fault)) (e : Event) (a : Result Taken Fault)
    (long : length events ≡ length answers) (n : DomainNo) (is : domain_of e ≡ Some n) (before after : Lent)
    (kept : (q : DomainNo) → domain_eq n q ≡ false → Keeps q before after) where
  own_is : (d : DomainNo) → is_own d e ≡ domain_eq n d
  own_is d = ap (λ o. option_map_or (λ m. domain_eq m d) o true) is

  abbrev AllGiven : List Served → List Domain → Type 0
  AllGiven served ds = AllZip (HasGiven here (events ++ e ∷ []) (answers ++ a ∷ []) after) served ds

  other_given : (s : Served) (d : Domain) → domain_eq n s.config.domain ≡ false → HasGiven here events answers before s d →
      HasGiven here (events ++ e ∷ []) (answers ++ a ∷ []) after s d
  other_given s d other so_far =
      kept_given here (events ++ e ∷ []) (answers ++ a ∷ []) before after s d (kept s.config.domain other)
      (other_event here events answers e a long _ _ _ d s.config s.halt (own_is s.config.domain ∙ other) so_far)

  -- every domain, where the event names none of them
  pub all_other_given : (served : List Served) (ds : List Domain) → is_configured n (configs_of served) ≡ false →
      AllZip (HasGiven here events answers before) served ds → AllGiven served ds
  all_other_given [] [] none so_far = so_far
  all_other_given [] (d ∷ ds) none so_far = absurd so_far
  all_other_given (s ∷ served) [] none so_far = absurd so_far
  all_other_given (s ∷ served) (d ∷ ds) none so_far =
      let parts = or_parts (domain_eq s.config.domain n) (is_configured n (configs_of served)) none in
      (other_given s d (domain_flipped s.config.domain n parts.0) so_far.0, all_other_given served ds parts.1 so_far.1)

  module _ (begun : a ≢ Err NoMemory) (old new : Domain) (named : number_of old ≡ n) (turn : IsTurn a e old new before after) where
    -- all domains, of which the one that is named took its turn
    pub record Others (was : List Served) (ds : List Domain) : Type 0 where
      pub now : List Served
      pub given : AllGiven now ds
      pub later : AllZip (IsLater (length events)) was now
      pub answer : IsAnswerOf (length events) (served_as n now) a

    here_turned : (s : Served) (rest : List Served) (ds : List Domain) → s.config.domain ≡ n → is_configured n (configs_of rest) ≡ false →
        HasGiven here events answers before s old → AllZip (HasGiven here events answers before) rest ds → Others (s ∷ rest) (new ∷ ds)
    here_turned s rest ds same apart so_far others =
        let own : domain_eq n s.config.domain ≡ true = ap (domain_eq n) same ∙ domain_itself n in
        let turned =
        own_turn here events answers e a long s.config old new before after (own_is s.config.domain ∙ own) s.halt a begun (λ _. refl)
        turn so_far in
        let flipped : domain_eq s.config.domain n ≡ true = ap (λ d. domain_eq d n) same ∙ domain_itself n in
        let t : Served = record { config = s.config; halt = halt_after (length events) s.halt a } in
        record {
          now = t ∷ rest;
          given = (turned.given, all_other_given rest ds apart others);
          later = (turned.later, all_same (length events) rest);
          answer = subst (λ b. IsAnswerOf (length events) (cond b (Some t) (served_as n rest)) a) (sym flipped) turned.says;
        }

    pub turn_given : (served : List Served) (ds : List Domain) (k : ℕ) → are_distinct (configs_of served) ≡ true →
        AllZip (HasGiven here events answers before) served ds → slice_get ds k ≡ Some old → Others served (slice_set ds k new)
    turn_given [] [] k distinct so_far stands = absurd (none_some old stands)
    turn_given [] (x ∷ ds) k distinct so_far stands = absurd so_far
    turn_given (s ∷ served) [] k distinct so_far stands = absurd so_far
    turn_given (s ∷ served) (x ∷ ds) zero distinct so_far stands =
        let parts = and_parts (not (is_configured s.config.domain (configs_of served))) (are_distinct (configs_of served)) distinct in
        let at : x ≡ old = same_some x old stands in
        let same : s.config.domain ≡ n = sym so_far.0.served.domain ∙ ap number_of at ∙ named in
        let apart : is_configured n (configs_of served) ≡ false =
        ap (λ d. is_configured d (configs_of served)) (sym same) ∙ not-true (is_configured s.config.domain (configs_of served)) parts.0 in
        here_turned s served ds same apart (subst (HasGiven here events answers before s) at so_far.0) so_far.1
    turn_given (s ∷ served) (x ∷ ds) (suc k) distinct so_far stands =
        let parts = and_parts (not (is_configured s.config.domain (configs_of served))) (are_distinct (configs_of served)) distinct in
        let there : is_configured n (configs_of served) ≡ true =
        ap (λ d. is_configured d (configs_of served)) (sym named)
        ∙ configured_at (configs_of served) ds k old (all_numbered here events answers before served ds so_far.1) stands in
        let other : domain_eq n s.config.domain ≡ false =
        false_from_ne_true (domain_eq n s.config.domain) (λ same.
        false≢true (sym (not-true (is_configured s.config.domain (configs_of served)) parts.0)
        ∙ ap (λ d. is_configured d (configs_of served)) (sym (same_domain n s.config.domain same))
        ∙ there)) in
        let rest = turn_given served ds k parts.1 so_far.1 stands in
        record {
          now = s ∷ rest.now;
          given = (other_given s x other so_far.0, rest.given);
          later = (later_same (length events) s, rest.later);
          answer = subst (λ b. IsAnswerOf (length events) (cond b (Some s) (served_as n rest.now)) a)
              (sym (domain_flipped n s.config.domain other)) rest.answer;
        }
