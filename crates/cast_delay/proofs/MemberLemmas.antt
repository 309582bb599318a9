-- What a search in a list says of the list's items, and which is the first where a number of each rises.
use Rattle.std.proofs.Common.{◌≡◌, ℕ, ◌<◌, ◌≤◌, Bool, true, cond, List, [], ◌∷◌, Contains, Some, None, sym, ap, subst, ◌∙◌, inl, inr, arith}
use Rattle.std.specs.Prelude.{nat_lt}
use Rattle.std.specs.List.{list_any, find}
use Rattle.std.proofs.lemmas.Bool.{cases_Bool, false≢true, or_cases, or_left, or_right, ltb-true}
use Rattle.cast_types.proofs.Contains.{contains_here, contains_later}
use Rattle.cast_index.specs.Rises.{rises}
use Rattle.cast_index.proofs.Rises.{parts_of}
use Rattle.cast_delay.proofs.ListLemmas.{contains_cases, all_each}

module _ {X : Type 0} (t : X → Bool) where
  -- an item that passes a test is in a list where some item does, and then some item does
  pub any_member : (xs : List X) → list_any t xs ≡ true → (x : X) × Contains xs x × (t x ≡ true)
  any_member [] any = absurd (false≢true any)
  any_member (x ∷ xs) any = elim (or_cases (t x) (list_any t xs) any) [
    | inl here ↦ (x, contains_here x xs, here)
    | inr later ↦ let m = any_member xs later in (m.0, contains_later m.0 x xs m.1, m.2)
  ]

  pub member_any : (xs : List X) (x : X) → Contains xs x → t x ≡ true → list_any t xs ≡ true
  member_any [] x has passes = absurd (omega (arith, has.1))
  member_any (y ∷ xs) x has passes = elim (contains_cases y x xs has) [
    | inl here ↦ or_left (t y) (list_any t xs) (ap t here ∙ passes)
    | inr later ↦ or_right (t y) (list_any t xs) (member_any xs x later passes)
  ]

  -- where none is found, none passes
  pub none_found : (xs : List X) → find t xs ≡ None → (x : X) → Contains xs x → t x ≡ true → ⊥
  none_found [] none x has passes = omega (arith, has.1)
  none_found (y ∷ xs) none x has passes = elim (cases_Bool (t y)) [
    | inl here ↦ cc (sym none ∙ ap (λ b. cond b (Some y) (find t xs)) here)
    | inr there ↦ elim (contains_cases y x xs has) [
      | inl same ↦ false≢true (sym there ∙ ap t same ∙ passes)
      | inr later ↦ none_found xs (sym (ap (λ b. cond b (Some y) (find t xs)) there) ∙ none) x later passes
    ]
  ]

  -- what is found is an item that passes
  pub found_member : (xs : List X) (m : X) → find t xs ≡ Some m → Contains xs m × (t m ≡ true)
  found_member [] m found = absurd (cc found)
  found_member (y ∷ xs) m found = elim (cases_Bool (t y)) [
    | inl here ↦
        let same : y ≡ m = cc (sym (ap (λ b. cond b (Some y) (find t xs)) here) ∙ found) in (
          subst (λ z. Contains (y ∷ xs) z) same (contains_here y xs),
          subst (λ z. t z ≡ true) same here,
        )
    | inr there ↦
        let rest = found_member xs m (sym (ap (λ b. cond b (Some y) (find t xs)) there) ∙ found) in
        (contains_later m y xs rest.0, rest.1)
  ]

module _ {X : Type 0} (n : X → ℕ) where
  behind : (y : X) (ys : List X) (x : X) → rises n (y ∷ ys) ≡ true → Contains ys x → n y < n x
  behind y ys x up has =
      ltb-true (n y) (n x) (all_each (λ z. nat_lt (n y) (n z)) ys (parts_of n y ys up).0 x has)

  -- items with one number are one
  pub same_item : (xs : List X) (a b : X) → rises n xs ≡ true → Contains xs a → Contains xs b → n a ≡ n b → a ≡ b
  same_item [] a b up ha hb same = absurd (omega (arith, ha.1))
  same_item (y ∷ ys) a b up ha hb same = elim (contains_cases y a ys ha) [
    | inl a_here ↦ elim (contains_cases y b ys hb) [
      | inl b_here ↦ sym a_here ∙ b_here
      | inr b_later ↦ absurd (omega (arith, behind y ys b up b_later, ap n a_here, same))
    ]
    | inr a_later ↦ elim (contains_cases y b ys hb) [
      | inl b_here ↦ absurd (omega (arith, behind y ys a up a_later, ap n b_here, same))
      | inr b_later ↦ same_item ys a b (parts_of n y ys up).1 a_later b_later same
    ]
  ]

  module _ (t : X → Bool) where
    -- the first item that passes is the one of those with the least number
    pub first_is : (xs : List X) (m : X) → rises n xs ≡ true → Contains xs m → t m ≡ true →
        ((x : X) → Contains xs x → t x ≡ true → n m ≤ n x) → find t xs ≡ Some m
    first_is [] m up has passes least = absurd (omega (arith, has.1))
    first_is (y ∷ ys) m up has passes least = elim (contains_cases y m ys has) [
      | inl here ↦ ap (λ b. cond b (Some y) (find t ys)) (ap t here ∙ passes) ∙ ap Some here
      | inr later ↦ elim (cases_Bool (t y)) [
        | inl first ↦ absurd (omega (arith, behind y ys m up later, least y (contains_here y ys) first))
        | inr other ↦
            ap (λ b. cond b (Some y) (find t ys)) other
            ∙ first_is ys m (parts_of n y ys up).1 later passes (λ x there. least x (contains_later x y ys there))
      ]
    ]

    pub found_least : (xs : List X) (m : X) → rises n xs ≡ true → find t xs ≡ Some m → (x : X) → Contains xs x → t x ≡ true → n m ≤ n x
    found_least [] m up found x has passes = absurd (omega (arith, has.1))
    found_least (y ∷ ys) m up found x has passes = elim (cases_Bool (t y)) [
      | inl first ↦
          let same : y ≡ m = cc (sym (ap (λ b. cond b (Some y) (find t ys)) first) ∙ found) in
          elim (contains_cases y x ys has) [
            | inl here ↦ omega (arith, ap n same, ap n here)
            | inr later ↦ omega (arith, ap n same, behind y ys x up later)
          ]
      | inr other ↦ elim (contains_cases y x ys has) [
        | inl here ↦ absurd (false≢true (sym other ∙ ap t here ∙ passes))
        | inr later ↦ found_least ys m (parts_of n y ys up).1 (sym (ap (λ b. cond b (Some y) (find t ys)) other) ∙ found) x later passes
      ]
    ]
