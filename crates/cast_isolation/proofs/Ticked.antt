-- One more event, which is a tick, over all domains.
use Rattle.std.proofs.Common.{◌≡◌, ◌≢◌, Bool, true, false, cond, not, List, [], ◌∷◌}
use Rattle.std.proofs.Common.{◌++◌, length, None, Result, Ok, Err, refl, sym, ap, ◌∙◌}
use Rattle.std.specs.List.{AllZip}
use Rattle.std.specs.Option.{option_map_or}
use Rattle.std.proofs.lemmas.Bool.{false≢true, and_parts, or_parts, not-true}
use Rattle.cast_types.specs.declared.names.DomainNo.{DomainNo}
use Rattle.cast_types.specs.declared.names.SiteNo.{SiteNo}
use Rattle.cast_types.specs.declared.refusal.Refusal.TheVariants as refusal
use Rattle.cast_events.specs.declared.config.DomainConfig.{DomainConfig}
use Rattle.cast_domain.specs.declared.domain.Domain.{Domain}
use Rattle.cast_events.specs.declared.event.Event.{Event}
use Rattle.cast_events.specs.declared.event.Taken.{Taken}
use Rattle.cast_events.specs.declared.event.Taken.TheVariants.{Nothing, Refused}
use Rattle.cast_events.specs.Events.{domain_of}
use Rattle.cast_domain.specs.Records.{number_of, is_halted}
use Rattle.cast_events.specs.declared.log.Fault.{Fault}
use Rattle.cast_events.specs.declared.log.Fault.TheVariants.{NoMemory, Halted}
use Rattle.cast_table.specs.Tables.{domain_eq, AreTurns, Lent, answer_in_turn, halted_in_turn}
use Rattle.cast_table.specs.Owns.{is_configured, are_distinct, names, is_own}
use Rattle.cast_table.proofs.Places.{IsNumbered}
use Rattle.cast_isolation.specs.Replays.{Served, halted_at}
use Rattle.cast_isolation.proofs.Later.{IsLater, configs_of, halted_first}
use Rattle.cast_isolation.proofs.Served.{HasGiven, Keeps, keeps_same, keeps_both, all_kept}
use Rattle.cast_isolation.proofs.Served.{kept_given, halt_after, own_turn, turn_keeps, turn_number}

-- What a domain answers in its turn

abbrev in_turn : Bool → Bool → DomainNo → Result Taken Fault
in_turn was now d = cond was (Ok (Refused refusal.Halted)) (cond now (Err (Halted d)) (Ok Nothing))

turn_begun : (was now : Bool) (d : DomainNo) → in_turn was now d ≢ Err NoMemory
turn_begun true now d e = cc
turn_begun false true d e = cc
turn_begun false false d e = cc

module _ (here : SiteNo) (events : List Event) (answers : List (Result Taken Fault)) (e : Event) (a : Result Taken Fault)
    (long : length events ≡ length answers) (tick : domain_of e ≡ None) where
  unnamed : (d : DomainNo) → names d e ≡ false
  unnamed d = ap (λ o. option_map_or (λ m. domain_eq m d) o false) tick

  own_all : (d : DomainNo) → is_own d e ≡ true
  own_all d = ap (λ o. option_map_or (λ m. domain_eq m d) o true) tick

  -- all domains after their turns, and what they leave to others
  pub record HaveTurned (was : List Served) (olds : List Domain) (news : List Domain) (before : Lent) (after : Lent) : Type 0 where
    pub now : List Served
    pub given : AllZip (HasGiven here (events ++ e ∷ []) (answers ++ a ∷ []) after) now news
    pub later : AllZip (IsLater (length events)) was now
    pub halts : halted_at (length events) now ≡ halted_in_turn olds news
    pub keeps : (q : DomainNo) → is_configured q (configs_of was) ≡ false → Keeps q before after

  pub turns_given : (served : List Served) (olds news : List Domain) (before after : Lent) → are_distinct (configs_of served) ≡ true →
      AreTurns e olds news before after → AllZip (HasGiven here events answers before) served olds →
      HaveTurned served olds news before after
  turns_given [] [] [] before after distinct turns so_far =
      record { now = []; given = tt; later = tt; halts = refl; keeps = λ q none. keeps_same q before after turns }
  turns_given [] [] (n ∷ news) before after distinct turns so_far = absurd turns
  turns_given [] (o ∷ olds) news before after distinct turns so_far = absurd so_far
  turns_given (s ∷ served) [] news before after distinct turns so_far = absurd so_far
  turns_given (s ∷ served) (o ∷ olds) [] before after distinct turns so_far = absurd turns
  turns_given (s ∷ served) (o ∷ olds) (n ∷ news) before after distinct turns so_far =
      let parts = and_parts (not (is_configured s.config.domain (configs_of served))) (are_distinct (configs_of served)) distinct in
      let apart : is_configured s.config.domain (configs_of served) ≡ false =
      not-true (is_configured s.config.domain (configs_of served)) parts.0 in
      let between : Lent = turns.0 in
      let b : Result Taken Fault = answer_in_turn o n in
      let keeps : (q : DomainNo) → domain_eq s.config.domain q ≡ false → Keeps q before between =
      turn_keeps here events answers e s o n before between so_far.0 b turns.1 in
      let rest =
      turns_given served olds news between after parts.1 turns.2
      (all_kept here events answers before between s.config.domain keeps served olds apart so_far.1) in
      let turned =
      own_turn here events answers e a long s.config o n before between (own_all s.config.domain) s.halt b
      (turn_begun (is_halted o) (is_halted n) (number_of o))
      (λ named. absurd (false≢true (sym (unnamed s.config.domain) ∙ named))) turns.1 so_far.0 in
      let t : Served = record { config = s.config; halt = halt_after (length events) s.halt b } in
      record {
        now = t ∷ rest.now;
        given = (
          kept_given here (events ++ e ∷ []) (answers ++ a ∷ []) between after t n (rest.keeps s.config.domain apart) turned.given,
          rest.given,
        );
        later = (turned.later, rest.later);
        halts = halted_first (length events) t rest.now ∙ (λ i. turned.halts i ++ rest.halts i);
        keeps = λ q none.
            let away = or_parts (domain_eq s.config.domain q) (is_configured q (configs_of served)) none in
            keeps_both q before between after (keeps q away.0) (rest.keeps q away.1);
      }

pub turns_numbered : (e : Event) (cs : List DomainConfig) (olds news : List Domain) (before after : Lent) →
    AreTurns e olds news before after → AllZip IsNumbered cs olds → AllZip IsNumbered cs news
turns_numbered e [] [] [] before after turns numbers = numbers
turns_numbered e [] [] (n ∷ news) before after turns numbers = absurd turns
turns_numbered e [] (o ∷ olds) news before after turns numbers = absurd numbers
turns_numbered e (c ∷ cs) [] news before after turns numbers = absurd numbers
turns_numbered e (c ∷ cs) (o ∷ olds) [] before after turns numbers = absurd turns
turns_numbered e (c ∷ cs) (o ∷ olds) (n ∷ news) before after turns numbers = (
  turn_number (answer_in_turn o n) e o n before turns.0 turns.1 ∙ numbers.0,
  turns_numbered e cs olds news turns.0 after turns.2 numbers.1,
)
