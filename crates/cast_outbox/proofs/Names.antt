-- What is kept of the outboxes, a slab and a map from names to its keys, as a function from names to entries, and what a change at
-- one name leaves of it.
use Rattle.std.proofs.Common.{◌≡◌, ◌≢◌, ℕ, zero, suc, ◌<◌, Bool, true, false, cond, List, [], ◌∷◌, get_or}
use Rattle.std.proofs.Common.{Option, Some, None, refl, sym, ap, subst, ◌∙◌, inl, inr, true≢false, arith}
use Rattle.std.specs.Prelude.{◌==◌, ◌&&◌, ◌||◌}
use Rattle.std.specs.Option.{option_map_or}
use Rattle.std.specs.List.{find, list_any}
use Rattle.std.proofs.lemmas.Bool.{cases_Bool, eqb-true, eq-eqb, false_from_ne_true}
use Rattle.cast_types.specs.declared.names.DomainNo.{DomainNo}
use Rattle.cast_message.specs.declared.client.Push.{Push}
use Rattle.cast_outbox.specs.Pending.{Pending}
use Rattle.cast_outbox.specs.Outboxes.{is_of, entries_in, outboxes_in, name_eq, name_of, Named}
use Rattle.cast_outbox.proofs.Entries.{with_at, at_each}

-- Searches

module _ {X : Type 0} (p : Option X → Bool) (vacant : p None ≡ false) where
  find_first : (xs : List (Option X)) (i : ℕ) → p (get_or xs i None) ≡ true → ((j : ℕ) → j < i → p (get_or xs j None) ≡ false) →
      find p xs ≡ Some (get_or xs i None)
  find_first [] i passes fails = absurd (true≢false (sym passes ∙ vacant))
  find_first (x ∷ xs) zero passes fails = ap (λ b. cond b (Some x) (find p xs)) passes
  find_first (x ∷ xs) (suc i) passes fails =
      ap (λ b. cond b (Some x) (find p xs)) (fails 0 (omega arith)) ∙ find_first xs i passes (λ j l. fails (suc j) (omega arith))

  find_none : (xs : List (Option X)) → ((j : ℕ) → p (get_or xs j None) ≡ false) → find p xs ≡ None
  find_none [] fails = refl
  find_none (x ∷ xs) fails = ap (λ b. cond b (Some x) (find p xs)) (fails 0) ∙ find_none xs (λ j. fails (suc j))

  none_passes : (xs : List (Option X)) → ((j : ℕ) → p (get_or xs j None) ≡ false) → list_any p xs ≡ false
  none_passes [] fails = refl
  none_passes (x ∷ xs) fails = ap (λ b. b || list_any p xs) (fails 0) ∙ none_passes xs (λ j. fails (suc j))

-- Names

and_true : (a b : Bool) → (a && b) ≡ true → (a ≡ true) × (b ≡ true)
and_true a b =
    elim a as (λ a. (a && b) ≡ true → (a ≡ true) × (b ≡ true)) [ true ↦ λ h. (refl, h) | false ↦ λ h. absurd (true≢false (sym h)) ]

pub one_name : (p q : ℕ × ℕ) → name_eq p q ≡ true → p ≡ q
one_name p q same =
    let both = and_true (p.0 == q.0) (p.1 == q.1) same in
    λ i. (eqb-true p.0 q.0 both.0 i, eqb-true p.1 q.1 both.1 i)

pub itself : (p : ℕ × ℕ) → name_eq p p ≡ true
itself p = ap (λ b. b && p.1 == p.1) (eq-eqb p.0 p.0 refl) ∙ eq-eqb p.1 p.1 refl

-- a slot that holds the outbox of a name
slot_of : (d : DomainNo) (k : ℕ) (slot : Option Pending) → is_of d k slot ≡ true → (x : Pending) × (slot ≡ Some x) × (name_of x ≡ (d.0, k))
slot_of d k None passes = absurd (true≢false (sym passes))
slot_of d k (Some x) passes = (x, refl, one_name (name_of x) (d.0, k) passes)

is_its_own : (d : DomainNo) (k : ℕ) (x : Pending) → name_of x ≡ (d.0, k) → is_of d k (Some x) ≡ true
is_its_own d k x is = ap (λ p. name_eq p (d.0, k)) is ∙ itself (d.0, k)

-- the entries of a name, by its key
abbrev pub through : (ℕ × ℕ → Option ℕ) → (ℕ → Option Pending) → ℕ × ℕ → List Push
through names slots p = option_map_or (λ key. entries_in (slots key)) (names p) []

-- what is seen is what is kept
module _ (names : ℕ × ℕ → Option ℕ) (slots : List (Option Pending)) (sound : Named names (λ key. get_or slots key None)) (d : DomainNo)
    (k : ℕ) where
  -- a slot of the name has its key
  keyed : (key : ℕ) → is_of d k (get_or slots key None) ≡ true → names (d.0, k) ≡ Some key
  keyed key passes =
      let x = slot_of d k (get_or slots key None) passes in
      subst (λ p. names p ≡ Some key) x.2 (sound.named key x.0 x.1)

  -- where it has no key, no slot is its own
  unkeyed : names (d.0, k) ≡ None → (j : ℕ) → is_of d k (get_or slots j None) ≡ false
  unkeyed none j = false_from_ne_true (is_of d k (get_or slots j None)) (λ passes. absurd (cc (keyed j passes, none)))

  pub without : names (d.0, k) ≡ None → list_any (is_of d k) slots ≡ false
  without none = none_passes (is_of d k) refl slots (unkeyed none)

  seen_at : (o : Option ℕ) → names (d.0, k) ≡ o → outboxes_in slots d k ≡ option_map_or (λ key. entries_in (get_or slots key None)) o []
  unfolding outboxes_in
  seen_at None none =
      ap (λ f. option_map_or entries_in f []) (find_none (is_of d k) refl slots (unkeyed none))
  seen_at (Some key) at =
      let x = sound.taken (d.0, k) key at in
      ap (λ f. option_map_or entries_in f [])
      (find_first (is_of d k) refl slots key (ap (is_of d k) x.1 ∙ is_its_own d k x.0 x.2)
      (λ j l. false_from_ne_true (is_of d k (get_or slots j None))
      (λ passes. let same : j ≡ key = cc (keyed j passes, at) in absurd (omega (arith, same, l)))))

  pub seen : outboxes_in slots d k ≡ through names (λ key. get_or slots key None) (d.0, k)
  seen = seen_at (names (d.0, k)) refl

-- A change

-- one name has these entries, and each other name has what it had
pub record Step (p : ℕ × ℕ) (v : List Push) (names names' : ℕ × ℕ → Option ℕ) (slots slots' : ℕ → Option Pending) : Type 0 where
  pub sound : Named names' slots'
  pub here : through names' slots' p ≡ v
  pub others : (q : ℕ × ℕ) → name_eq p q ≡ false → through names' slots' q ≡ through names slots q

-- one slot is another, which alone is named by the name
module _ (names names' : ℕ × ℕ → Option ℕ) (slots slots' : ℕ → Option Pending) (sound : Named names slots)
    (p : ℕ × ℕ) (key : ℕ) (w : Option Pending)
    (only : (key' : ℕ) → names p ≡ Some key' → key' ≡ key) (free : (q : ℕ × ℕ) → names q ≡ Some key → p ≡ q)
    (slot : slots' key ≡ w) (slots_stay : (other : ℕ) → other ≢ key → slots' other ≡ slots other)
    (name : names' p ≡ option_map_or (λ _. Some key) w None) (names_stay : (q : ℕ × ℕ) → name_eq p q ≡ false → names' q ≡ names q)
    (its : (x : Pending) → w ≡ Some x → name_of x ≡ p) where
  apart : (q : ℕ × ℕ) (key' : ℕ) → name_eq p q ≡ false → names q ≡ Some key' → key' ≢ key
  apart q key' differ at same = true≢false (sym (ap (name_eq p) (sym (free q (at ∙ ap Some same)) ∙ refl) ∙ itself p) ∙ sym (sym differ))

  taken_here : (o : Option Pending) → w ≡ o → (key' : ℕ) → names' p ≡ Some key' → (x : Pending) × (slots' key' ≡ Some x) × (name_of x ≡ p)
  taken_here None none key' at = absurd (cc (sym at ∙ name ∙ ap (λ o. option_map_or (λ _. Some key) o None) none))
  taken_here (Some x) is key' at =
      let same : key' ≡ key = cc (sym at ∙ name ∙ ap (λ o. option_map_or (λ _. Some key) o None) is) in
      (x, ap slots' same ∙ slot ∙ is, its x is)

  now_taken : (q : ℕ × ℕ) (key' : ℕ) → names' q ≡ Some key' → (x : Pending) × (slots' key' ≡ Some x) × (name_of x ≡ q)
  now_taken q key' at = elim (cases_Bool (name_eq p q)) [
    | inl same ↦
        let is = one_name p q same in
        subst (λ q. (x : Pending) × (slots' key' ≡ Some x) × (name_of x ≡ q)) is (taken_here w refl key' (ap names' is ∙ at))
    | inr differ ↦
        let before = sym (names_stay q differ) ∙ at in
        let x = sound.taken q key' before in
        (x.0, slots_stay key' (apart q key' differ before) ∙ x.1, x.2)
  ]

  now_named : (key' : ℕ) (x : Pending) → slots' key' ≡ Some x → names' (name_of x) ≡ Some key'
  now_named key' x is = elim (cases_Bool (key' == key)) [
    | inl same ↦
        let at : key' ≡ key = eqb-true key' key same in
        let there : w ≡ Some x = sym slot ∙ ap slots' (sym at) ∙ is in
        ap names' (its x there) ∙ name ∙ ap (λ o. option_map_or (λ _. Some key) o None) there ∙ ap Some (sym at)
    | inr differ ↦
        let away : key' ≢ key = λ at. true≢false (sym (eq-eqb key' key at) ∙ differ) in
        let before = sound.named key' x (sym (slots_stay key' away) ∙ is) in
        let other =
        false_from_ne_true (name_eq p (name_of x)) (λ same. away (only key' (ap names (one_name p (name_of x) same) ∙ before))) in
        names_stay (name_of x) other ∙ before
  ]

  here_by : (o : Option Pending) → w ≡ o → through names' slots' p ≡ entries_in o
  here_by None none =
      ap (λ o. option_map_or (λ key. entries_in (slots' key)) o []) (name ∙ ap (λ o. option_map_or (λ _. Some key) o None) none)
  here_by (Some x) is =
      ap (λ o. option_map_or (λ key. entries_in (slots' key)) o []) (name ∙ ap (λ o. option_map_or (λ _. Some key) o None) is)
      ∙ ap entries_in (slot ∙ is)

  others_by : (q : ℕ × ℕ) → name_eq p q ≡ false → (o : Option ℕ) → names q ≡ o →
      option_map_or (λ key. entries_in (slots' key)) o [] ≡ option_map_or (λ key. entries_in (slots key)) o []
  others_by q differ None none = refl
  others_by q differ (Some key') at = ap entries_in (slots_stay key' (apart q key' differ at))

  pub step : Step p (entries_in w) names names' slots slots'
  step = record {
    sound = record { taken = now_taken; named = now_named };
    here = here_by w refl;
    others =
        λ q differ. ap (λ o. option_map_or (λ key. entries_in (slots' key)) o []) (names_stay q differ) ∙ others_by q differ (names q) refl;
  }

-- the three changes
module _ (names names' : ℕ × ℕ → Option ℕ) (slots slots' : ℕ → Option Pending) (sound : Named names slots) (p : ℕ × ℕ) (key : ℕ) where
  -- no key is named twice
  pub named_once : (q r : ℕ × ℕ) → names q ≡ Some key → names r ≡ Some key → q ≡ r
  named_once q r one two =
      let x = sound.taken q key one in
      let y = sound.taken r key two in
      let same : x.0 ≡ y.0 = cc (sym x.1 ∙ y.1) in
      sym x.2 ∙ ap name_of same ∙ y.2

  module _ (x : Pending) (its : name_of x ≡ p) (slot : slots' key ≡ Some x)
      (slots_stay : (other : ℕ) → other ≢ key → slots' other ≡ slots other) where
    its_own : (y : Pending) → Some x ≡ Some y → name_of y ≡ p
    its_own y same = let is : x ≡ y = cc same in ap name_of (sym is) ∙ its

    -- an outbox is added for a name that had none
    pub step_add : names p ≡ None → slots key ≡ None → names' p ≡ Some key → ((q : ℕ × ℕ) → name_eq p q ≡ false → names' q ≡ names q) →
        Step p x.entries names names' slots slots'
    step_add none vacant name names_stay =
        step names names' slots slots' sound p key (Some x) (λ key' at. absurd (cc (sym at ∙ none)))
        (λ q at. absurd (cc (sym (sound.taken q key at).1 ∙ vacant))) slot slots_stay name names_stay its_own

    -- the outbox of a name is changed
    pub step_set : names p ≡ Some key → names' ≡ names → Step p x.entries names names' slots slots'
    step_set at same =
        step names names' slots slots' sound p key (Some x) (λ key' there. cc (sym there ∙ at)) (λ q there. named_once p q at there)
        slot slots_stay (ap (λ f. f p) same ∙ at) (λ q differ. ap (λ f. f q) same) its_own

  -- the outbox of a name is removed
  pub step_remove : names p ≡ Some key → slots' key ≡ None → ((other : ℕ) → other ≢ key → slots' other ≡ slots other) → names' p ≡ None →
      ((q : ℕ × ℕ) → name_eq p q ≡ false → names' q ≡ names q) → Step p [] names names' slots slots'
  step_remove at slot slots_stay name names_stay =
      step names names' slots slots' sound p key None (λ key' there. cc (sym there ∙ at)) (λ q there. named_once p q at there)
      slot slots_stay name names_stay (λ x is. absurd (cc is))

-- what is seen after a change
module _ (names names' : ℕ × ℕ → Option ℕ) (slots slots' : List (Option Pending)) (sound : Named names (λ key. get_or slots key None))
    (d : DomainNo) (k : ℕ) (v : List Push)
    (after : Step (d.0, k) v names names' (λ key. get_or slots key None) (λ key. get_or slots' key None)) where
  apart_by : (e : DomainNo) (j : ℕ) → name_eq (d.0, k) (e.0, j) ≡ false → outboxes_in slots' e j ≡ outboxes_in slots e j
  apart_by e j differ = seen names' slots' after.sound e j ∙ after.others (e.0, j) differ ∙ sym (seen names slots sound e j)

  pub own_after : outboxes_in slots' d ≡ with_at (outboxes_in slots d) k v
  own_after =
      at_each (outboxes_in slots' d) (outboxes_in slots d) k v (seen names' slots' after.sound d k ∙ after.here)
      (λ j differ. apart_by d j (ap (λ b. b && k == j) (eq-eqb d.0 d.0 refl) ∙ differ))

  pub others_after : (e : DomainNo) → e ≢ d → outboxes_in slots' e ≡ outboxes_in slots e
  others_after e differ =
      let apart = false_from_ne_true (d.0 == e.0) (λ same. differ (ap (λ (n : ℕ). record { 0 = n }) (sym (eqb-true d.0 e.0 same)))) in
      λ i j. apart_by e j (ap (λ b. b && k == j) apart) i
