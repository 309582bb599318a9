-- What holds of each item of a list holds of each of a part of it.
use Rattle.std.proofs.Common.{◌≡◌, ℕ, zero, suc, ◌≤◌, Bool, true, false, cond, List, []}
use Rattle.std.proofs.Common.{◌∷◌, ◌++◌, length, take, refl, sym, subst, inl, inr, arith}
use Rattle.std.specs.List.{list_all, filter}
use Rattle.std.proofs.lemmas.Bool.{cases_Bool, and_parts, and_from}

-- each item that a test keeps passes it
pub all_filter : {A : Type 0} (test : A → Bool) (xs : List A) → list_all test (filter test xs) ≡ true
all_filter test [] = refl
all_filter test (x ∷ xs) = elim (cases_Bool (test x)) [
  | inl stays ↦
      subst (λ b. list_all test (cond b (x ∷ filter test xs) (filter test xs)) ≡ true) (sym stays)
      (and_from (test x) (list_all test (filter test xs)) stays (all_filter test xs))
  | inr goes ↦ subst (λ b. list_all test (cond b (x ∷ filter test xs) (filter test xs)) ≡ true) (sym goes) (all_filter test xs)
]

-- what holds of each item holds of each of the first
pub all_take : {A : Type 0} (test : A → Bool) (n : ℕ) (xs : List A) → list_all test xs ≡ true → list_all test (take n xs) ≡ true
all_take test zero xs all = refl
all_take test (suc n) [] all = refl
all_take test (suc n) (x ∷ xs) all =
    let parts = and_parts (test x) (list_all test xs) all in
    and_from (test x) (list_all test (take n xs)) parts.0 (all_take test n xs parts.1)

-- what holds of each item of two lists holds of each of both
pub all_append : {A : Type 0} (test : A → Bool) (xs ys : List A) → list_all test xs ≡ true → list_all test ys ≡ true →
    list_all test (xs ++ ys) ≡ true
all_append test [] ys first then = then
all_append test (x ∷ xs) ys first then =
    let parts = and_parts (test x) (list_all test xs) first in
    and_from (test x) (list_all test (xs ++ ys)) parts.0 (all_append test xs ys parts.1 then)

-- a test keeps no more than there is
pub length_filter : {A : Type 0} (keep : A → Bool) (xs : List A) → length (filter keep xs) ≤ length xs
length_filter keep [] = omega arith
length_filter keep (x ∷ xs) =
    let rest = length_filter keep xs in
    elim (keep x) as (λ b. length (cond b (x ∷ filter keep xs) (filter keep xs)) ≤ suc (length xs)) [
      | true ↦ omega (arith, rest)
      | false ↦ omega (arith, rest)
    ]
