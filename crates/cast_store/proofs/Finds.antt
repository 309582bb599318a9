-- What a search gives in a list, also once an item is added to it or some are taken from it.
use Rattle.std.proofs.Common.{◌≡◌, ℕ, zero, suc, ◌<◌, ◌≤◌, Bool, true, false, not, cond, List, [], ◌∷◌}
use Rattle.std.proofs.Common.{◌++◌, length, get_or, Option, Some, None, refl, ap, ◌∙◌, inl, inr, arith}
use Rattle.std.specs.Prelude.{nat_lt}
use Rattle.std.specs.Option.{option_or}
use Rattle.std.specs.List.{find, filter, position, position_or_len}
use Rattle.std.proofs.lemmas.Bool.{cases_Bool, ltb-false}
use Rattle.std.proofs.lemmas.List.Folds.{find_at, find-append}
use Rattle.std.proofs.lemmas.List.Quantifiers.{position-Some}
use Rattle.std.proofs.lemmas.Option.{slice_get_past}

module _ {X : Type 0} (p : X → Bool) where
  -- the search gives what stands at the first place
  find_first : (xs : List X) (i : ℕ) (d : X) → i < length xs → p (get_or xs i d) ≡ true → ((k : ℕ) → k < i → p (get_or xs k d) ≡ false) →
      find p xs ≡ Some (get_or xs i d)
  find_first [] i d lt passes fails = absurd (omega arith)
  find_first (x ∷ xs) zero d lt passes fails = ap (λ b. cond b (Some x) (find p xs)) passes
  find_first (x ∷ xs) (suc i) d lt passes fails =
      ap (λ b. cond b (Some x) (find p xs)) (fails 0 (omega arith))
      ∙ find_first xs i d (omega arith) passes (λ k l. fails (suc k) (omega arith))

  pub find_place : (xs : List X) (i : ℕ) (d : X) → position p xs ≡ Some i → find p xs ≡ Some (get_or xs i d)
  find_place xs i d at = let first = position-Some p xs i d at in find_first xs i d first.0 first.1 first.2

  past : (n len : ℕ) → cond {A = Option ℕ} (nat_lt n len) (Some n) None ≡ None → len ≤ n
  past n len none = elim (cases_Bool (nat_lt n len)) [
    | inl passes ↦ absurd (cc (ap (λ b. cond {A = Option ℕ} b (Some n) None) passes))
    | inr fails ↦ ltb-false n len fails
  ]

  pub find_no_place : (xs : List X) → position p xs ≡ None → find p xs ≡ None
  find_no_place xs none = find_at p xs ∙ slice_get_past xs (position_or_len p xs) (past (position_or_len p xs) (length xs) none)

  -- one more at the end
  pub find_push_yes : (xs : List X) (x : X) → find p xs ≡ None → p x ≡ true → find p (xs ++ x ∷ []) ≡ Some x
  find_push_yes xs x none passes =
      find-append p xs (x ∷ []) ∙ ap (λ o. option_or o (find p (x ∷ []))) none ∙ ap (λ b. cond b (Some x) None) passes

  -- where none passes, none is taken out
  pub keep_all : (xs : List X) → find p xs ≡ None → filter (λ x. not (p x)) xs ≡ xs
  keep_all [] none = refl
  keep_all (x ∷ xs) none =
      elim (p x)
      as (λ b. cond b (Some x) (find p xs) ≡ None → cond (not b) (x ∷ filter (λ y. not (p y)) xs) (filter (λ y. not (p y)) xs) ≡ x ∷ xs) [
        | true ↦ λ here. absurd (cc)
        | false ↦ λ later. ap (λ rest. x ∷ rest) (keep_all xs later)
      ] none

  -- those that fail another test taken out
  module _ (q : X → Bool) where
    pub find_filter : ((x : X) → q x ≡ false → p x ≡ false) → (xs : List X) → find p (filter q xs) ≡ find p xs
    find_filter implied [] = refl
    find_filter implied (x ∷ xs) = elim (cases_Bool (q x)) [
      | inl passes ↦ rw passes (ap (λ rest. cond (p x) (Some x) rest) (find_filter implied xs))
      | inr fails ↦ rw (fails, implied x fails) (find_filter implied xs)
    ]
