-- Tests of lists: one test for each item, and another that says the same.
use Rattle.std.proofs.Common.{◌≡◌, ◌⊎◌, ℕ, zero, suc, ◌+◌, ◌<◌, ◌≤◌, Bool, true, false, cond, not, ◌&&◌, ◌||◌, List, []}
use Rattle.std.proofs.Common.{◌∷◌, ◌++◌, map, take, drop, Contains, Some, refl, sym, ap, subst, ◌∙◌, inl, inr, arith}
use Rattle.std.specs.List.{list_all, list_any, filter, find, flat_map, range_with_len}
use Rattle.std.proofs.lemmas.Bool.{and_parts, and_from, cases_eq}

and_assoc : (a b c : Bool) → ((a && b) && c) ≡ (a && (b && c))
and_assoc true b c = refl
and_assoc false b c = refl

or_assoc : (a b c : Bool) → ((a || b) || c) ≡ (a || (b || c))
or_assoc true b c = refl
or_assoc false b c = refl

pub list_all-append : {A : Type 0} (t : A → Bool) (xs ys : List A) → list_all t (xs ++ ys) ≡ (list_all t xs && list_all t ys)
list_all-append t [] ys = refl
list_all-append t (x ∷ xs) ys = ap (λ b. t x && b) (list_all-append t xs ys) ∙ sym (and_assoc (t x) (list_all t xs) (list_all t ys))

pub list_any-append : {A : Type 0} (t : A → Bool) (xs ys : List A) → list_any t (xs ++ ys) ≡ (list_any t xs || list_any t ys)
list_any-append t [] ys = refl
list_any-append t (x ∷ xs) ys = ap (λ b. t x || b) (list_any-append t xs ys) ∙ sym (or_assoc (t x) (list_any t xs) (list_any t ys))

pub list_all-map : {A B : Type 0} (t : B → Bool) (f : A → B) (xs : List A) → list_all t (map f xs) ≡ list_all (λ x. t (f x)) xs
list_all-map t f [] = refl
list_all-map t f (x ∷ xs) = ap (λ b. t (f x) && b) (list_all-map t f xs)

pub list_all-flat_map : {A B : Type 0} (t : B → Bool) (f : A → List B) (xs : List A) →
    list_all t (flat_map f xs) ≡ list_all (λ x. list_all t (f x)) xs
list_all-flat_map t f [] = refl
list_all-flat_map t f (x ∷ xs) = list_all-append t (f x) (flat_map f xs) ∙ ap (λ b. list_all t (f x) && b) (list_all-flat_map t f xs)

-- a test of all but some is a test of all that lets these pass
pub list_all-filter : {A : Type 0} (t own : A → Bool) (xs : List A) →
    list_all t (filter (λ x. not (own x)) xs) ≡ list_all (λ x. own x || t x) xs
list_all-filter t own [] = refl
list_all-filter t own (x ∷ xs) =
    elim (own x) as (λ b. list_all t (cond (not b) (x ∷ filter (λ y. not (own y)) xs) (filter (λ y. not (own y)) xs))
    ≡ ((b || t x) && list_all (λ y. own y || t y) xs)) [
      | true ↦ list_all-filter t own xs
      | false ↦ ap (λ b. t x && b) (list_all-filter t own xs)
    ]

pub list_all_agree : {A : Type 0} (s t : A → Bool) → ((x : A) → s x ≡ t x) → (xs : List A) → list_all s xs ≡ list_all t xs
list_all_agree s t same [] = refl
list_all_agree s t same (x ∷ xs) = λ i. same x i && list_all_agree s t same xs i

-- a test of a range is one of each number in it
pub range_holds : (t : ℕ → Bool) (n a : ℕ) → list_all t (range_with_len a n) ≡ true → (k : ℕ) → a ≤ k → k < a + n → t k ≡ true
range_holds t zero a h k low high = absurd (omega arith)
range_holds t (suc n) a h k low high =
    let parts = and_parts (t a) (list_all t (range_with_len (a + 1) n)) h in
    elim (cases_eq a k) [
      | inl same ↦ subst (λ j. t j ≡ true) same parts.0
      | inr other ↦ range_holds t n (a + 1) parts.1 k (omega arith) (omega arith)
    ]

pub holds_range : (t : ℕ → Bool) (n a : ℕ) → ((k : ℕ) → a ≤ k → k < a + n → t k ≡ true) → list_all t (range_with_len a n) ≡ true
holds_range t zero a h = refl
holds_range t (suc n) a h =
    and_from (t a) (list_all t (range_with_len (a + 1) n)) (h a (omega arith) (omega arith))
    (holds_range t n (a + 1) (λ k low high. h k (omega arith) (omega arith)))

-- an item of a longer list is its first or one of the rest
pub contains_cases : {A : Type 0} (x y : A) (xs : List A) → Contains (x ∷ xs) y → (x ≡ y) ⊎ Contains xs y
contains_cases x y xs (zero, lt, at) = inl at
contains_cases x y xs (suc k, lt, at) = inr (k, omega (arith, lt), at)

-- a test of all items is one of each
pub all_each : {A : Type 0} (t : A → Bool) (xs : List A) → list_all t xs ≡ true → (x : A) → Contains xs x → t x ≡ true
all_each t [] all x has = absurd (omega (arith, has.1))
all_each t (y ∷ xs) all x has =
    let parts = and_parts (t y) (list_all t xs) all in
    elim (contains_cases y x xs has) [
      | inl here ↦ subst (λ z. t z ≡ true) here parts.0
      | inr later ↦ all_each t xs parts.1 x later
    ]

-- what fails on the first n items is looked for behind them
pub find_past : {A : Type 0} (s t : A → Bool) → ((x : A) → s x ≡ true → t x ≡ false) → (xs : List A) (n : ℕ) →
    list_all s (take n xs) ≡ true → find t (drop n xs) ≡ find t xs
find_past s t fails [] zero all = refl
find_past s t fails [] (suc n) all = refl
find_past s t fails (x ∷ xs) zero all = refl
find_past s t fails (x ∷ xs) (suc n) all =
    let parts = and_parts (s x) (list_all s (take n xs)) all in
    find_past s t fails xs n parts.1
    ∙ sym (ap (λ b. cond b (Some x) (find t xs)) (fails x parts.0))
