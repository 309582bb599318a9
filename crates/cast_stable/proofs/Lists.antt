-- Items of a list: what all of them pass, and the least of their numbers.
use Rattle.std.proofs.Common.{◌≡◌, ℕ, zero, suc, ◌≤◌, ◌⊎◌, min, Bool, true, false, ◌&&◌, List}
use Rattle.std.proofs.Common.{[], ◌∷◌, map, Contains, refl, sym, ap, subst, ◌∙◌, inl, inr, arith}
use Rattle.std.specs.List.{list_all, fold}
use Rattle.std.proofs.Math.Nat.{min-le_left, min-le_right}
use Rattle.std.proofs.lemmas.Bool.{and_parts, cases_Bool, cases_lt}
use Rattle.cast_types.proofs.Contains.{contains_here, contains_later}

pub contains_none : {A : Type 0} (x : A) → Contains [] x → ⊥
contains_none x (k, lt, at) = omega (arith, lt)

pub contains_cases : {A : Type 0} (x y : A) (ys : List A) → Contains (y ∷ ys) x → (y ≡ x) ⊎ Contains ys x
contains_cases x y ys (zero, lt, at) = inl at
contains_cases x y ys (suc k, lt, at) = inr (k, omega (arith, lt), at)

-- a test that all pass, each passes, and one that not all pass, some does not
pub each_passes : {A : Type 0} (t : A → Bool) (xs : List A) (x : A) → list_all t xs ≡ true → Contains xs x → t x ≡ true
each_passes t [] x all in_xs = absurd (contains_none x in_xs)
each_passes t (y ∷ ys) x all in_xs =
    let parts = and_parts (t y) (list_all t ys) all in
    elim (contains_cases x y ys in_xs) [
      | inl same ↦ subst (λ z. t z ≡ true) same parts.0
      | inr later ↦ each_passes t ys x parts.1 later
    ]

pub some_fails : {A : Type 0} (t : A → Bool) (xs : List A) → list_all t xs ≡ false → (x : A) × Contains xs x × (t x ≡ false)
some_fails t [] none = cc
some_fails t (y ∷ ys) none = elim (cases_Bool (t y)) [
  | inl passes ↦
      let (x, in_ys, fails) = some_fails t ys (sym (ap (λ b. b && list_all t ys) passes) ∙ none) in
      (x, contains_later x y ys in_ys, fails)
  | inr fails ↦ (y, contains_here y ys, fails)
]

module _ {A : Type 0} (f : A → ℕ) where
  -- the least number is at most each of them
  pub least_first : (a : ℕ) (xs : List A) → fold min a (map f xs) ≤ a
  least_first a [] = omega arith
  least_first a (x ∷ xs) = omega (arith, least_first (min a (f x)) xs, min-le_left a (f x))

  pub least_each : (a : ℕ) (xs : List A) (x : A) → Contains xs x → fold min a (map f xs) ≤ f x
  least_each a [] x in_xs = absurd (contains_none x in_xs)
  least_each a (y ∷ ys) x in_xs = elim (contains_cases x y ys in_xs) [
    | inl same ↦
        subst (λ z. fold min (min a (f y)) (map f ys) ≤ f z) same (omega (arith, least_first (min a (f y)) ys, min-le_right a (f y)))
    | inr later ↦ least_each (min a (f y)) ys x later
  ]

  min_cases : (a b : ℕ) → (min a b ≡ a) ⊎ (min a b ≡ b)
  min_cases a b = elim (cases_lt a b) [ inl lt ↦ inl (omega (arith, lt)) | inr ge ↦ inr (omega (arith, ge)) ]

  -- and is one of them
  pub least_reached : (a : ℕ) (xs : List A) → (fold min a (map f xs) ≡ a) ⊎ ((x : A) × Contains xs x × (fold min a (map f xs) ≡ f x))
  least_reached a [] = inl refl
  least_reached a (y ∷ ys) = elim (least_reached (min a (f y)) ys) [
    | inl first ↦ elim (min_cases a (f y)) [
      | inl left ↦ inl (first ∙ left)
      | inr right ↦ inr (y, contains_here y ys, first ∙ right)
    ]
    | inr (x, in_ys, is) ↦ inr (x, contains_later x y ys in_ys, is)
  ]
