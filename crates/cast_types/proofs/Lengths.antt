-- How long filtered lists and sets are.
use Rattle.std.proofs.Common.{◌≡◌, suc, ◌+◌, ◌<◌, ◌≤◌, Bool, true, false, not, List, [], ◌∷◌, length, filter, Ordering}
use Rattle.std.proofs.Common.{Less, Equal, Greater, inl, inr, refl, arith}
use Rattle.std.specs.Prelude.{◌&&◌}
use Rattle.std.specs.List.{list_any}
use Rattle.std.proofs.lemmas.Bool.{and_parts, cases_Bool, or_cases, false≢true}
use Rattle.cast_types.specs.Sets.{with_item, with_items, set_of, at_order}

-- a test that implies another keeps at most as many, and fewer where one that passes the other fails it
module _ {X : Type 0} (p q : X → Bool) (implied : (x : X) → p x ≡ true → q x ≡ true) where
  filter_at_most : (xs : List X) → length (filter p xs) ≤ length (filter q xs)
  filter_at_most [] = omega arith
  filter_at_most (x ∷ xs) = let rest = filter_at_most xs in elim (cases_Bool (p x)) [
    | inl pass ↦ rw (pass, implied x pass) (omega (arith, rest))
    | inr fail ↦ elim (cases_Bool (q x)) [
      | inl more ↦ rw (fail, more) (omega (arith, rest))
      | inr none ↦ rw (fail, none) rest
    ]
  ]

  pub filter_fewer : (xs : List X) → list_any (λ x. q x && not (p x)) xs ≡ true → length (filter p xs) < length (filter q xs)
  filter_fewer [] some = absurd (false≢true some)
  filter_fewer (x ∷ xs) some = elim (or_cases (q x && not (p x)) (list_any (λ y. q y && not (p y)) xs) some) [
    | inl here ↦
        let parts = and_parts (q x) (not (p x)) here in
        let rest = filter_at_most xs in
        rw (parts.0, is_not (p x) parts.1) (omega (arith, rest))
    | inr later ↦
        let rest = filter_fewer xs later in
        elim (cases_Bool (p x)) [
          | inl pass ↦ rw (pass, implied x pass) (omega (arith, rest))
          | inr fail ↦ elim (cases_Bool (q x)) [
            | inl more ↦ rw (fail, more) (omega (arith, rest))
            | inr none ↦ rw (fail, none) rest
          ]
        ]
  ]
    where
      is_not : (b : Bool) → not b ≡ true → b ≡ false
      is_not true h = absurd (false≢true h)
      is_not false h = refl

-- a set has at most one item more, and no more items than the list that it is made of
module _ {A : Type 0} (cmp : A → A → Ordering) where
  pub with_item_length : (x : A) (s : List A) → length (with_item cmp x s) ≤ length s + 1
  with_item_length x [] = omega arith
  with_item_length x (y ∷ s) =
      elim (cmp x y) as (λ o. length (at_order o (x ∷ y ∷ s) (y ∷ s) (y ∷ with_item cmp x s)) ≤ suc (length s) + 1) [
        | Less ↦ omega arith
        | Equal ↦ omega arith
        | Greater ↦ omega (arith, with_item_length x s)
      ]

  with_items_length : (s xs : List A) → length (with_items cmp s xs) ≤ length s + length xs
  with_items_length s [] = omega arith
  with_items_length s (x ∷ xs) = omega (arith, with_items_length (with_item cmp x s) xs, with_item_length x s)

  pub set_length : (xs : List A) → length (set_of cmp xs) ≤ length xs
  set_length xs = omega (arith, with_items_length [] xs)
