-- The receipts of all domains and the slots that they name, after a message is added, taken out, or all of a domain are.
use Rattle.std.proofs.Common.{◌≡◌, ◌≢◌, ℕ, zero, suc, Bool, true, false, not, cond, List, [], ◌∷◌, ◌++◌, Option}
use Rattle.std.proofs.Common.{Some, None, refl, sym, ap, subst, ◌∙◌, inl, inr, true≢false, arith, Contains, filter}
use Rattle.std.specs.Prelude.{◌==◌}
use Rattle.std.specs.Option.{option_map, option_or}
use Rattle.std.specs.List.{find}
use Rattle.std.proofs.lemmas.Bool.{cases_Bool, eqb-true, eq-eqb, ne_eqb}
use Rattle.std.proofs.lemmas.List.Elements.{Contains-push_cases}
use Rattle.std.proofs.lemmas.List.Folds.{find-append}
use Rattle.cast_types.specs.declared.names.DomainNo.{DomainNo}
use Rattle.cast_types.proofs.Contains.{contains_here, contains_later}
use Rattle.cast_message.specs.declared.message.Message.{Message}
use Rattle.cast_store.specs.declared.receipt.Receipt.{Receipt}
use Rattle.cast_store.specs.declared.slot.Slot.{Slot}
use Rattle.cast_store.specs.Ids.{is_abcast}
use Rattle.cast_store.specs.Lines.{receipt_of, slot_under, slot_with, but_number, only, IsStocked}
use Rattle.cast_store.proofs.Finds.{find_push_yes, find_filter}

-- Lists

-- what a search finds is there, and passes
pub find_there : {X : Type 0} (p : X → Bool) (xs : List X) (x : X) → find p xs ≡ Some x → Contains xs x × (p x ≡ true)
find_there p [] x found = absurd (cc found)
find_there p (y ∷ ys) x found = elim (cases_Bool (p y)) [
  | inl passes ↦
      let same : y ≡ x = cc (sym (ap (λ b. cond b (Some y) (find p ys)) passes) ∙ found) in
      (subst (λ z. Contains (y ∷ ys) z) same (contains_here y ys), ap p (sym same) ∙ passes)
  | inr fails ↦
      let later = find_there p ys x (sym (ap (λ b. cond b (Some y) (find p ys)) fails) ∙ found) in
      (contains_later x y ys later.0, later.1)
]

-- what is left by a filter was there, and passes
filter_there : {X : Type 0} (p : X → Bool) (xs : List X) (x : X) → Contains (filter p xs) x → Contains xs x × (p x ≡ true)
filter_there p [] x (k, lt, at) = absurd (omega (arith, lt))
filter_there p (y ∷ ys) x there = elim (cases_Bool (p y)) [
  | inl passes ↦
      first passes (λ later. filter_there p ys x later) (subst (λ b. Contains (cond b (y ∷ filter p ys) (filter p ys)) x) passes there)
  | inr fails ↦
      let later = filter_there p ys x (subst (λ b. Contains (cond b (y ∷ filter p ys) (filter p ys)) x) fails there) in
      (contains_later x y ys later.0, later.1)
]
  where
    first : p y ≡ true → (Contains (filter p ys) x → Contains ys x × (p x ≡ true)) → Contains (y ∷ filter p ys) x →
        Contains (y ∷ ys) x × (p x ≡ true)
    first passes behind (zero, lt, at) = (subst (λ z. Contains (y ∷ ys) z) at (contains_here y ys), ap p (sym at) ∙ passes)
    first passes behind (suc k, lt, at) =
        let later = behind (k, omega (arith, lt), at) in
        (contains_later x y ys later.0, later.1)

-- the slot of a number

found_slot : (xs : List Receipt) (n : ℕ) → slot_under xs n ≡ None → find (λ r. r.number == n) xs ≡ None
found_slot xs n none = by (find (λ r. r.number == n) xs) none
  where
    by : (o : Option Receipt) → option_map (λ r. r.slot) o ≡ None → o ≡ None
    by None is = refl
    by (Some r) is = absurd (cc is)

under_more : (xs ys : List Receipt) (n key : ℕ) → slot_under xs n ≡ Some key → slot_under (xs ++ ys) n ≡ Some key
under_more xs ys n key is =
    ap (λ (o : Option Receipt). option_map (λ r. r.slot) o) (find-append (λ r. r.number == n) xs ys) ∙ by (find (λ r. r.number == n) xs) is
  where
    by : (o : Option Receipt) → option_map (λ r. r.slot) o ≡ Some key →
        option_map (λ r. r.slot) (option_or o (find (λ r. r.number == n) ys)) ≡ Some key
    by None is = absurd (cc is)
    by (Some r) is = is

under_push : (xs : List Receipt) (r : Receipt) → slot_under xs r.number ≡ None → slot_under (xs ++ r ∷ []) r.number ≡ Some r.slot
under_push xs r none =
    ap (λ (o : Option Receipt). option_map (λ r. r.slot) o)
    (find_push_yes (λ q. q.number == r.number) xs r (found_slot xs r.number none) (eq-eqb r.number r.number refl))

under_left : (xs : List Receipt) (n m : ℕ) → n ≢ m → slot_under (but_number m xs) n ≡ slot_under xs n
under_left xs n m differ =
    ap (λ (o : Option Receipt). option_map (λ r. r.slot) o) (find_filter (λ r. r.number == n) (λ r. not (r.number == m))
    (λ r out. ne_eqb r.number n (λ same. differ (sym same ∙ eqb-true r.number m (passed (r.number == m) out)))) xs)
  where
    passed : (b : Bool) → not b ≡ false → b ≡ true
    passed true h = refl
    passed false h = absurd (cc h)

-- Changes

-- which domain is another
same_domain : (d e : DomainNo) → (e.0 == d.0) ≡ true → e ≡ d
same_domain d e same = ap (λ (n : ℕ). record { 0 = n }) (eqb-true e.0 d.0 same)

other_domain : (d e : DomainNo) → (e.0 == d.0) ≡ false → e ≢ d
other_domain d e differ same = true≢false (sym (eq-eqb e.0 d.0 (ap (λ (n : DomainNo). n.0) same)) ∙ differ)

-- a receipt names a slot that is taken for it
abbrev IsTaken : (ℕ → Option Slot) → DomainNo → Receipt → Type 0
IsTaken slots d r =
    (s : Slot) × (slots r.slot ≡ Some s) × (s.domain ≡ d) × (s.number ≡ r.number) × (s.message.id ≡ r.id) × (is_abcast s.message ≡ r.atomic)

module _ (receipts receipts' : DomainNo → List Receipt) (slots slots' : ℕ → Option Slot) (sound : IsStocked receipts slots)
    (d : DomainNo) (rest : (e : DomainNo) → e ≢ d → receipts' e ≡ receipts e) where
  -- a slot that has not changed is taken as it was
  taken_still : (e : DomainNo) (q : Receipt) → Contains (receipts e) q → slots' q.slot ≡ slots q.slot → IsTaken slots' e q
  taken_still e q there stays = let s = sound.taken e q there in (s.0, stays ∙ s.1, s.2, s.3, s.4, s.5)

  named_still : (key : ℕ) (s : Slot) → slots key ≡ Some s → s.domain ≢ d → slot_under (receipts' s.domain) s.number ≡ Some key
  named_still key s is differ = ap (λ (xs : List Receipt). slot_under xs s.number) (rest s.domain differ) ∙ sound.named key s is

  -- a message is added, in a slot that was vacant
  module _ (n key : ℕ) (m : Message) (vacant : slots key ≡ None) (free : slot_under (receipts d) n ≡ None)
      (slot : slots' key ≡ Some (slot_with d n m)) (slots_stay : (other : ℕ) → other ≢ key → slots' other ≡ slots other)
      (own : receipts' d ≡ receipts d ++ receipt_of n key m ∷ []) where
    abbrev r : Receipt
    r = receipt_of n key m

    -- no receipt named it
    pub added_still : (e : DomainNo) (q : Receipt) → Contains (receipts e) q → slots' q.slot ≡ slots q.slot
    added_still e q there = slots_stay q.slot (λ same. let s = sound.taken e q there in absurd (cc (sym s.1 ∙ ap slots same ∙ vacant)))

    added_taken : (e : DomainNo) (q : Receipt) → Contains (receipts' e) q → IsTaken slots' e q
    added_taken e q there = elim (cases_Bool (e.0 == d.0)) [
      | inl same ↦
          let is = same_domain d e same in
          elim (Contains-push_cases (receipts d) r q (subst (λ (xs : List Receipt). Contains xs q) (ap receipts' is ∙ own) there)) [
            | inl before ↦ subst (λ f. IsTaken slots' f q) (sym is) (taken_still d q before (added_still d q before))
            | inr last ↦
                subst (λ f. IsTaken slots' f q) (sym is)
                (subst (λ p. IsTaken slots' d p) last (slot_with d n m, slot, refl, refl, refl, refl))
          ]
      | inr differ ↦
          let before = subst (λ (xs : List Receipt). Contains xs q) (rest e (other_domain d e differ)) there in
          taken_still e q before (added_still e q before)
    ]

    added_named : (k : ℕ) (s : Slot) → slots' k ≡ Some s → slot_under (receipts' s.domain) s.number ≡ Some k
    added_named k s is = elim (cases_Bool (k == key)) [
      | inl same ↦
          let at : k ≡ key = eqb-true k key same in
          let its : slot_with d n m ≡ s = cc (sym slot ∙ ap slots' (sym at) ∙ is) in
          subst (λ (t : Slot). slot_under (receipts' t.domain) t.number ≡ Some k) its
          (ap (λ (xs : List Receipt). slot_under xs n) own ∙ under_push (receipts d) r free ∙ ap Some (sym at))
      | inr differ ↦
          let before = sym (slots_stay k (λ at. true≢false (sym (eq-eqb k key at) ∙ differ))) ∙ is in
          elim (cases_Bool (s.domain.0 == d.0)) [
            | inl here ↦
                let its = same_domain d s.domain here in
                ap (λ (xs : List Receipt). slot_under xs s.number) (ap receipts' its ∙ own)
                ∙ under_more (receipts d) (r ∷ [])
                s.number k (ap (λ f. slot_under (receipts f) s.number) (sym its) ∙ sound.named k s before)
            | inr away ↦ named_still k s before (other_domain d s.domain away)
          ]
    ]

    pub added : IsStocked receipts' slots'
    added = record { taken = added_taken; named = added_named }

  -- the message of a receipt is taken out
  module _ (n : ℕ) (r : Receipt) (found : find (λ q. q.number == n) (receipts d) ≡ Some r)
      (slot : slots' r.slot ≡ None) (slots_stay : (other : ℕ) → other ≢ r.slot → slots' other ≡ slots other)
      (own : receipts' d ≡ but_number n (receipts d)) where
    -- no other receipt names its slot
    named_once : (e : DomainNo) (q : Receipt) → Contains (receipts e) q → q.slot ≡ r.slot → (e ≡ d) × (q.number ≡ n)
    named_once e q there at =
        let f = find_there (λ q. q.number == n) (receipts d) r found in
        let s = sound.taken e q there in
        let t = sound.taken d r f.0 in
        let same : s.0 ≡ t.0 = cc (sym s.1 ∙ ap slots at ∙ t.1) in
        (sym s.2 ∙ ap (λ (x : Slot). x.domain) same ∙ t.2, sym s.3 ∙ ap (λ (x : Slot). x.number) same ∙ t.3 ∙ eqb-true r.number n f.1)

    pub removed_still : (e : DomainNo) → e ≢ d → (q : Receipt) → Contains (receipts e) q → slots' q.slot ≡ slots q.slot
    removed_still e differ q there = slots_stay q.slot (λ at. differ (named_once e q there at).0)

    pub removed_still_own : (q : Receipt) → Contains (receipts d) q → (q.number == n) ≡ false → slots' q.slot ≡ slots q.slot
    removed_still_own q there differ = slots_stay q.slot (λ at. true≢false (sym (eq-eqb q.number n (named_once d q there at).1) ∙ differ))

    removed_taken : (e : DomainNo) (q : Receipt) → Contains (receipts' e) q → IsTaken slots' e q
    removed_taken e q there = elim (cases_Bool (e.0 == d.0)) [
      | inl same ↦
          let is = same_domain d e same in
          let before =
          filter_there (λ q. not (q.number == n)) (receipts d)
          q (subst (λ (xs : List Receipt). Contains xs q) (ap receipts' is ∙ own) there) in
          subst (λ f. IsTaken slots' f q) (sym is) (taken_still d q before.0 (removed_still_own q before.0 (left (q.number == n) before.1)))
      | inr differ ↦
          let away = other_domain d e differ in
          let before = subst (λ (xs : List Receipt). Contains xs q) (rest e away) there in
          taken_still e q before (removed_still e away q before)
    ]
      where
        left : (b : Bool) → not b ≡ true → b ≡ false
        left true h = absurd (cc h)
        left false h = refl

    removed_named : (k : ℕ) (s : Slot) → slots' k ≡ Some s → slot_under (receipts' s.domain) s.number ≡ Some k
    removed_named k s is =
        let away : k ≢ r.slot = λ at. absurd (cc (sym is ∙ ap slots' at ∙ slot)) in
        let before = sym (slots_stay k away) ∙ is in
        elim (cases_Bool (s.domain.0 == d.0)) [
          | inl here ↦
              let its = same_domain d s.domain here in
              let named = ap (λ f. slot_under (receipts f) s.number) (sym its) ∙ sound.named k s before in
              let differ : s.number ≢ n = λ same.
              away (cc (sym named ∙ ap (slot_under (receipts d)) same ∙ ap (λ (o : Option Receipt). option_map (λ r. r.slot) o) found)) in
              ap (λ (xs : List Receipt). slot_under xs s.number) (ap receipts' its ∙ own)
              ∙ under_left (receipts d) s.number n differ
              ∙ named
          | inr there ↦ named_still k s before (other_domain d s.domain there)
        ]

    pub removed : IsStocked receipts' slots'
    removed = record { taken = removed_taken; named = removed_named }

  -- all messages of a domain are let go
  module _ (slots_left : (key : ℕ) → slots' key ≡ only (λ s. not (s.domain.0 == d.0)) (slots key)) (own : receipts' d ≡ []) where
    pub dropped_still : (e : DomainNo) → e ≢ d → (q : Receipt) → Contains (receipts e) q → slots' q.slot ≡ slots q.slot
    dropped_still e differ q there =
        let s = sound.taken e q there in
        let away = ne_eqb s.0.domain.0 d.0 (λ same. differ (sym s.2 ∙ ap (λ (n : ℕ). record { 0 = n }) same)) in
        slots_left q.slot ∙ ap (only (λ s. not (s.domain.0 == d.0))) s.1 ∙ ap (λ b. cond (not b) (Some s.0) None) away ∙ sym s.1

    dropped_taken : (e : DomainNo) (q : Receipt) → Contains (receipts' e) q → IsTaken slots' e q
    dropped_taken e q there = elim (cases_Bool (e.0 == d.0)) [
      | inl same ↦ none (subst (λ (xs : List Receipt). Contains xs q) (ap receipts' (same_domain d e same) ∙ own) there)
      | inr differ ↦
          let away = other_domain d e differ in
          let before = subst (λ (xs : List Receipt). Contains xs q) (rest e away) there in
          taken_still e q before (dropped_still e away q before)
    ]
      where
        none : Contains (let xs : List Receipt = [] in xs) q → IsTaken slots' e q
        none (k, lt, at) = absurd (omega (arith, lt))

    -- what is left was there, of another domain
    left_by : (o : Option Slot) (s : Slot) → only (λ s. not (s.domain.0 == d.0)) o ≡ Some s → (o ≡ Some s) × (s.domain ≢ d)
    left_by None s is = absurd (cc is)
    left_by (Some t) s is = elim (cases_Bool (t.domain.0 == d.0)) [
      | inl here ↦ absurd (cc (sym (ap (λ b. cond (not b) (Some t) None) here) ∙ is))
      | inr there ↦
          let same : t ≡ s = cc (sym (ap (λ b. cond (not b) (Some t) None) there) ∙ is) in
          (ap Some same, subst (λ (u : Slot). u.domain ≢ d) same (other_domain d t.domain there))
    ]

    dropped_named : (k : ℕ) (s : Slot) → slots' k ≡ Some s → slot_under (receipts' s.domain) s.number ≡ Some k
    dropped_named k s is =
        let was = left_by (slots k) s (sym (slots_left k) ∙ is) in
        named_still k s was.0 was.1

    pub dropped : IsStocked receipts' slots'
    dropped = record { taken = dropped_taken; named = dropped_named }
