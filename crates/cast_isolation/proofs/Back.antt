-- Domains that stand in order of number, back in the order of the configuration.
use Rattle.std.proofs.Common.{◌≡◌, ℕ, suc, ◌+◌, ◌<◌, Bool, true, false, cond, not, ◌&&◌, ◌||◌, List, [], ◌∷◌}
use Rattle.std.proofs.Common.{◌++◌, map, length, drop, get_or, Option, Some, None, Result, Ok, Err, nat_le}
use Rattle.std.proofs.Common.{find, remove, refl, sym, ap, subst, ◌∙◌, inl, inr, append_assoc, arith}
use Rattle.std.specs.List.{AllZip, list_any, list_all, position_from}
use Rattle.std.specs.Option.{option_map_or, option_to_list}
use Rattle.std.proofs.lemmas.Bool.{cases_Bool, false≢true, leb-false, false_from_ne_true}
use Rattle.std.proofs.Math.Bool.{or-false}
use Rattle.std.proofs.lemmas.List.{map-append, drop_more}
use Rattle.std.proofs.lemmas.List.Folds.{list_any-append}
use Rattle.cast_types.specs.declared.names.DomainNo.{DomainNo}
use Rattle.cast_events.specs.declared.config.DomainConfig.{DomainConfig}
use Rattle.cast_domain.specs.declared.domain.Domain.{Domain}
use Rattle.cast_events.specs.declared.event.Event.{Event}
use Rattle.cast_events.specs.declared.event.Taken.{Taken}
use Rattle.cast_events.specs.Events.{domain_of}
use Rattle.cast_domain.specs.Records.{number_of}
use Rattle.cast_events.specs.declared.log.Fault.{Fault}
use Rattle.cast_events.specs.declared.log.Fault.TheVariants.{NoMemory, Halted, NoDomain}
use Rattle.cast_table.specs.Tables.{domain_eq, put_in, by_number, without, pick_domains, IsLeastOf}
use Rattle.cast_table.specs.Owns.{is_configured}
use Rattle.cast_table.proofs.Parts.{same_domain, domain_itself}
use Rattle.cast_table.proofs.Places.{none_some, same_some}
use Rattle.cast_table.proofs.Ordered.{or_swap, configured_same}
use Rattle.cast_isolation.specs.Replays.{Served, finds_domain, is_halted_at, halted_at, served_as, IsTickAnswer}
use Rattle.cast_isolation.specs.Replays.{IsAnswerOf, IsAnswerTo, IsAnswer, AreAnswersFrom, TellsNoDomain}
use Rattle.cast_isolation.proofs.Later.{configs_of, number_halted, halted_first}

finds_same : (e : Event) (cs : List DomainConfig) → finds_domain e (by_number cs) ≡ finds_domain e cs
finds_same e cs =
    elim (domain_of e)
    as (λ o. option_map_or (λ d. is_configured d (by_number cs)) o true ≡ option_map_or (λ d. is_configured d cs) o true) [
      | None ↦ refl
      | Some d ↦ configured_same d cs
    ]

pub tells_same : (cs : List DomainConfig) (events : List Event) (answers : List (Result Taken Fault)) →
    AllZip (TellsNoDomain (by_number cs)) events answers → AllZip (TellsNoDomain cs) events answers
tells_same cs [] [] tells = tells
tells_same cs [] (a ∷ answers) tells = absurd tells
tells_same cs (e ∷ events) [] tells = absurd tells
tells_same cs (e ∷ events) (a ∷ answers) tells =
    ((λ is. sym (finds_same e cs) ∙ tells.0.0 is, λ none. tells.0.1 (finds_same e cs ∙ none)), tells_same cs events answers tells.1)

-- Back in the order of the configuration

module _ (R : Served → Domain → Type 0) (number : (s : Served) (d : Domain) → R s d → number_of d ≡ s.config.domain) where
  -- one that was put in, and the others
  record IsPut (c : DomainConfig) (xs : List DomainConfig) (served : List Served) (ds : List Domain) : Type 0 where
    s : Served
    others : List Served
    d : Domain
    its : s.config ≡ c
    configs : configs_of others ≡ xs
    found : find (λ x. domain_eq (number_of x) c.domain) ds ≡ Some d
    given : R s d
    rest : AllZip R others (without c.domain ds)
    any : (p : Served → Bool) → list_any p (s ∷ others) ≡ list_any p served
    named : (n : DomainNo) → served_as n (s ∷ others) ≡ served_as n served

  -- it stands first
  put_first : (c : DomainConfig) (xs : List DomainConfig) (s : Served) (others : List Served) (d : Domain) (ds : List Domain) →
      s.config ≡ c → configs_of others ≡ xs → R s d → AllZip R others ds → IsPut c xs (s ∷ others) (d ∷ ds)
  put_first c xs s others d ds its configs given rest =
      let same : domain_eq (number_of d) c.domain ≡ true =
      ap (λ n. domain_eq n c.domain) (number s d given ∙ ap (λ (k : DomainConfig). k.domain) its) ∙ domain_itself c.domain in
      record {
        s = s;
        others = others;
        d = d;
        its = its;
        configs = configs;
        found = ap (λ b. cond b (Some d) (find (λ x. domain_eq (number_of x) c.domain) ds)) same;
        given = given;
        rest = subst (AllZip R others) (sym (ap (λ b. cond b ds (d ∷ without c.domain ds)) same)) rest;
        any = λ p. refl;
        named = λ n. refl;
      }

  both_named : (a b : Bool) (s t : Served) (o : Option Served) → (a ≡ true → b ≡ true → ⊥) →
      cond a (Some s) (cond b (Some t) o) ≡ cond b (Some t) (cond a (Some s) o)
  both_named true true s t o apart = absurd (apart refl refl)
  both_named true false s t o apart = refl
  both_named false b s t o apart = refl

  first_config : (c x : DomainConfig) (cs xs : List DomainConfig) → c ∷ cs ≡ x ∷ xs → c ≡ x
  first_config c x cs xs same = cc

  rest_configs : (c x : DomainConfig) (cs xs : List DomainConfig) → c ∷ cs ≡ x ∷ xs → cs ≡ xs
  rest_configs c x cs xs same = cc

  no_configs : (x : DomainConfig) (xs : List DomainConfig) → [] ≡ x ∷ xs → ⊥
  no_configs x xs same = cc

  put_in_some : (c : DomainConfig) (xs : List DomainConfig) → [] ≡ put_in c xs → ⊥
  put_in_some c [] none = no_configs c [] none
  put_in_some c (x ∷ xs) none =
      elim (nat_le c.domain.0 x.domain.0) as (λ b. [] ≡ cond b (c ∷ x ∷ xs) (x ∷ put_in c xs) → ⊥) [
        | true ↦ no_configs c (x ∷ xs)
        | false ↦ no_configs x (put_in c xs)
      ] none

  -- it stands behind one of a lower number
  module _ (c x : DomainConfig) (xs : List DomainConfig) (s : Served) (served : List Served) (d : Domain) (ds : List Domain)
      (above : nat_le c.domain.0 x.domain.0 ≡ false) (its : s.config ≡ x) (given : R s d) (put : IsPut c xs served ds) where
    differ : (a b : DomainNo) → a ≡ x.domain → b ≡ c.domain → a ≡ b → ⊥
    differ a b low high same =
        let below = leb-false c.domain.0 x.domain.0 above in
        let equal : x.domain.0 ≡ c.domain.0 = ap (λ (n : DomainNo). n.0) (sym low ∙ same ∙ high) in
        omega (arith, below, equal)

    low : s.config.domain ≡ x.domain
    low = ap (λ (k : DomainConfig). k.domain) its

    high : put.s.config.domain ≡ c.domain
    high = ap (λ (k : DomainConfig). k.domain) put.its

    other : domain_eq (number_of d) c.domain ≡ false
    other =
        false_from_ne_true (domain_eq (number_of d) c.domain)
        (λ same. differ (number_of d) c.domain (number s d given ∙ low) refl (same_domain (number_of d) c.domain same))

    apart : (n : DomainNo) → domain_eq put.s.config.domain n ≡ true → domain_eq s.config.domain n ≡ true → ⊥
    apart n one two =
        differ s.config.domain put.s.config.domain low high
        (same_domain s.config.domain n two ∙ sym (same_domain put.s.config.domain n one))

    put_behind : IsPut c (x ∷ xs) (s ∷ served) (d ∷ ds)
    put_behind =
        record {
          s = put.s;
          others = s ∷ put.others;
          d = put.d;
          its = put.its;
          configs = λ i. its i ∷ put.configs i;
          found = ap (λ b. cond b (Some d) (find (λ y. domain_eq (number_of y) c.domain) ds)) other ∙ put.found;
          given = put.given;
          rest = subst (AllZip R (s ∷ put.others)) (sym (ap (λ b. cond b ds (d ∷ without c.domain ds)) other)) (given, put.rest);
          any = λ p. or_swap (p put.s) (p s) (list_any p put.others) ∙ ap (λ more. p s || more) (put.any p);
          named = λ n.
              both_named (domain_eq put.s.config.domain n) (domain_eq s.config.domain n) put.s s (served_as n put.others) (apart n)
              ∙ ap (λ o. cond (domain_eq s.config.domain n) (Some s) o) (put.named n);
        }

  put_in_is : (c : DomainConfig) (xs : List DomainConfig) (served : List Served) (ds : List Domain) → configs_of served ≡ put_in c xs →
      AllZip R served ds → IsPut c xs served ds
  put_in_is c xs [] ds configs given = absurd (put_in_some c xs configs)
  put_in_is c xs (s ∷ served) [] configs given = absurd given
  put_in_is c [] (s ∷ served) (d ∷ ds) configs given =
      put_first c [] s served d ds (first_config s.config c (configs_of served) [] configs)
      (rest_configs s.config c (configs_of served) [] configs) given.0 given.1
  put_in_is c (x ∷ xs) (s ∷ served) (d ∷ ds) configs given =
      elim (cases_Bool (nat_le c.domain.0 x.domain.0)) [
        | inl before ↦
            let here = configs ∙ ap (λ b. cond b (c ∷ x ∷ xs) (x ∷ put_in c xs)) before in
            put_first c (x ∷ xs) s served d ds (first_config s.config c (configs_of served) (x ∷ xs) here)
            (rest_configs s.config c (configs_of served) (x ∷ xs) here) given.0 given.1
        | inr above ↦
            let later = configs ∙ ap (λ b. cond b (c ∷ x ∷ xs) (x ∷ put_in c xs)) above in
            put_behind c x xs s served d ds above (first_config s.config x (configs_of served) (put_in c xs) later) given.0
            (put_in_is c xs served ds (rest_configs s.config x (configs_of served) (put_in c xs) later) given.1)
      ]

  -- domains as they were served, in the order of these configurations
  pub record IsBack (cs : List DomainConfig) (served : List Served) (ds : List Domain) : Type 0 where
    pub order : List Served
    pub configs : configs_of order ≡ cs
    pub given : AllZip R order (pick_domains cs ds)
    pub any : (p : Served → Bool) → list_any p order ≡ list_any p served
    pub named : (n : DomainNo) → served_as n order ≡ served_as n served

  pub back : (cs : List DomainConfig) (served : List Served) (ds : List Domain) → configs_of served ≡ by_number cs → AllZip R served ds →
      IsBack cs served ds
  back [] [] ds configs given = record { order = []; configs = refl; given = tt; any = λ p. refl; named = λ n. refl }
  back [] (s ∷ served) ds configs given = absurd (no_configs s.config (configs_of served) (sym configs))
  back (c ∷ cs) served ds configs given =
      let put = put_in_is c (by_number cs) served ds configs given in
      let rest = back cs put.others (without c.domain ds) put.configs put.rest in
      record {
        order = put.s ∷ rest.order;
        configs = λ i. put.its i ∷ rest.configs i;
        given = subst (λ o. AllZip R (put.s ∷ rest.order) (option_to_list o ++ pick_domains cs (without c.domain ds))) (sym put.found)
            (put.given, rest.given);
        any = λ p. ap (λ more. p put.s || more) (rest.any p) ∙ put.any p;
        named = λ n. ap (λ o. cond (domain_eq put.s.config.domain n) (Some put.s) o) (rest.named n) ∙ put.named n;
      }

-- Answers, in whatever order the domains stand

one_any : (p : DomainNo → Bool) (b : Bool) (n : DomainNo) → list_any p (cond b (n ∷ []) []) ≡ (b && p n)
one_any p true n = or-false (p n)
one_any p false n = refl

halted_any : (m : ℕ) (p : DomainNo → Bool) (served : List Served) →
    list_any p (halted_at m served) ≡ list_any (λ s. is_halted_at m s && p s.config.domain) served
halted_any m p [] = refl
halted_any m p (s ∷ served) =
    ap (list_any p) (halted_first m s served)
    ∙ list_any-append p (number_halted m s) (halted_at m served)
    ∙ (λ i. one_any p (is_halted_at m s) s.config.domain i || halted_any m p served i)

all_not_any : (q : DomainNo → Bool) (xs : List DomainNo) → list_all q xs ≡ not (list_any (λ e. not (q e)) xs)
all_not_any q [] = refl
all_not_any q (x ∷ xs) =
    elim (q x) as (λ b. (b && list_all q xs) ≡ not (not b || list_any (λ e. not (q e)) xs)) [
      | true ↦ all_not_any q xs
      | false ↦ refl
    ]

none_any : (xs : List DomainNo) → list_any (λ e. true) xs ≡ false → xs ≡ []
none_any [] none = refl
none_any (x ∷ xs) none = absurd (false≢true (sym none))

least_same : (xs ys : List DomainNo) → ((p : DomainNo → Bool) → list_any p ys ≡ list_any p xs) → (o : Option DomainNo) → IsLeastOf o xs →
    IsLeastOf o ys
least_same xs ys any None least = none_any ys (any (λ e. true) ∙ ap (list_any (λ (e : DomainNo). true)) least)
least_same xs ys any (Some d) least =
    record {
      among = any (domain_eq d) ∙ least.among;
      lowest =
          all_not_any (λ e. nat_le d.0 e.0) ys
          ∙ ap not (any (λ e. not (nat_le d.0 e.0)))
          ∙ sym (all_not_any (λ e. nat_le d.0 e.0) xs)
          ∙ least.lowest;
    }

tick_same : (xs ys : List DomainNo) → ((p : DomainNo → Bool) → list_any p ys ≡ list_any p xs) → (a : Result Taken Fault) →
    IsTickAnswer xs a → IsTickAnswer ys a
tick_same xs ys any (Ok t) said = (said.0, least_same xs ys any None said.1)
tick_same xs ys any (Err NoMemory) said = said
tick_same xs ys any (Err (Halted d)) said = least_same xs ys any (Some d) said
tick_same xs ys any (Err NoDomain) said = said

module _ (served order : List Served) (any : (p : Served → Bool) → list_any p order ≡ list_any p served)
    (named : (n : DomainNo) → served_as n order ≡ served_as n served) where
  answer_same : (m : ℕ) (e : Event) (a : Result Taken Fault) → IsAnswer served m e a → IsAnswer order m e a
  answer_same m e a =
      elim (domain_of e) as (λ o. IsAnswerTo o served m a → IsAnswerTo o order m a) [
        | None ↦
            tick_same (halted_at m served) (halted_at m order)
            (λ p. halted_any m p order ∙ any (λ s. is_halted_at m s && p s.config.domain) ∙ sym (halted_any m p served)) a
        | Some n ↦ subst (λ o. IsAnswerOf m o a) (sym (named n))
      ]

  pub answers_same : (m : ℕ) (events : List Event) (answers : List (Result Taken Fault)) → AreAnswersFrom m served events answers →
      AreAnswersFrom m order events answers
  answers_same m [] [] said = said
  answers_same m [] (a ∷ answers) said = absurd said
  answers_same m (e ∷ events) [] said = absurd said
  answers_same m (e ∷ events) (a ∷ answers) said =
      (answer_same m e a said.0, answers_same (m + 1) events answers said.1)

-- The first domain of a number

pub none_first : (n : DomainNo) (i : ℕ) (ds : List Domain) → None ≡ position_from (λ d. domain_eq (number_of d) n) i ds →
    (None ≡ find (λ d. domain_eq (number_of d) n) ds) × (ds ≡ without n ds)
none_first n i [] none = (refl, refl)
none_first n i (d ∷ ds) none =
    elim (cases_Bool (domain_eq (number_of d) n)) [
      | inl named ↦
          absurd (none_some i (none ∙ ap (λ t. cond t (Some i) (position_from (λ e. domain_eq (number_of e) n) (i + 1) ds)) named))
      | inr other ↦
          let later =
          none_first n (i + 1) ds (none ∙ ap (λ t. cond t (Some i) (position_from (λ e. domain_eq (number_of e) n) (i + 1) ds)) other) in (
            later.0 ∙ sym (ap (λ t. cond t (Some d) (find (λ e. domain_eq (number_of e) n) ds)) other),
            ap (λ rest. d ∷ rest) later.1 ∙ sym (ap (λ t. cond t ds (d ∷ without n ds)) other),
          )
    ]

some_from : (n : DomainNo) (i place : ℕ) (ds : List Domain) → Some place ≡ position_from (λ d. domain_eq (number_of d) n) i ds →
    (k : ℕ)
    × (place ≡ i + k)
    × ((d : Domain) → d ≡ get_or ds k d → Some d ≡ find (λ d. domain_eq (number_of d) n) ds)
    × (remove ds k ≡ without n ds)
some_from n i place [] some = absurd (none_some place (sym some))
some_from n i place (d ∷ ds) some =
    elim (cases_Bool (domain_eq (number_of d) n)) [
      | inl named ↦
          let here : place ≡ i =
          same_some place i (some ∙ ap (λ t. cond t (Some i) (position_from (λ e. domain_eq (number_of e) n) (i + 1) ds)) named) in (
            0,
            omega (arith, here),
            λ x read. ap Some read ∙ sym (ap (λ t. cond t (Some d) (find (λ e. domain_eq (number_of e) n) ds)) named),
            sym (ap (λ t. cond t ds (d ∷ without n ds)) named),
          )
      | inr other ↦
          let later =
          some_from n (i + 1)
          place ds (some ∙ ap (λ t. cond t (Some i) (position_from (λ e. domain_eq (number_of e) n) (i + 1) ds)) other) in
          let there : place ≡ i + 1 + later.0 = later.1 in (
            suc later.0,
            omega (arith, there),
            λ x read. later.2 x read ∙ sym (ap (λ t. cond t (Some d) (find (λ e. domain_eq (number_of e) n) ds)) other),
            ap (λ rest. d ∷ rest) later.3 ∙ sym (ap (λ t. cond t ds (d ∷ without n ds)) other),
          )
    ]

pub some_first : (n : DomainNo) (place : ℕ) (ds : List Domain) → Some place ≡ position_from (λ d. domain_eq (number_of d) n) 0 ds →
    (d : Domain) → d ≡ get_or ds place d → (Some d ≡ find (λ e. domain_eq (number_of e) n) ds) × (remove ds place ≡ without n ds)
some_first n place ds some d read =
    let from = some_from n 0 place ds some in
    let there : place ≡ 0 + from.0 = from.1 in
    let same : place ≡ from.0 = omega (arith, there) in
    (from.2 d (read ∙ ap (λ k. get_or ds k d) same), ap (remove ds) same ∙ from.3)

-- What is given by the domains that are left

pub picked_more : {X : Type 0} (f : Domain → X) (given : List X) (cs : List DomainConfig) (i : ℕ) (c : DomainConfig) (ds : List Domain) →
    i < length cs → c ≡ get_or cs i c → (o : Option Domain) → o ≡ find (λ d. domain_eq (number_of d) c.domain) ds → given ++ map f
    (pick_domains (drop i cs) ds) ≡ (given ++ map f (option_to_list o)) ++ map f (pick_domains (drop (i + 1) cs) (without c.domain ds))
picked_more f given cs i c ds below read o is =
    let next : drop i cs ≡ c ∷ drop (i + 1) cs = drop_more cs i c below ∙ ap (λ x. x ∷ drop (i + 1) cs) (sym read) in
    let later : List Domain = pick_domains (drop (i + 1) cs) (without c.domain ds) in
    ap (λ rest. given ++ map f (pick_domains rest ds)) next
    ∙ ap (λ first. given ++ map f (option_to_list first ++ later)) (sym is)
    ∙ ap (λ rest. given ++ rest) (map-append f (option_to_list o) later)
    ∙ sym (append_assoc given (map f (option_to_list o)) (map f later))
