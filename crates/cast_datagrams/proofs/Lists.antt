-- Items of lists that were mapped, filtered or joined.
use Rattle.std.proofs.Common.{◌≡◌, ℕ, zero, suc, ◌+◌, ◌<◌, Bool, true, List, [], ◌∷◌, length, get_or, take, map, filter, Some, Contains}
use Rattle.std.proofs.Common.{subst, sym, ap, ◌∙◌, inl, inr, arith}
use Rattle.std.specs.Prelude.{slice_get, slice_index_or}
use Rattle.std.specs.List.{AllByRecursion}
use Rattle.std.proofs.lemmas.Bool.{cases_Bool}
use Rattle.cast_types.proofs.Contains.{contains_here, contains_later}

-- what stands at a place
pub got_at : {X : Type 0} (xs : List X) (k : ℕ) (x : X) → k < length xs → slice_index_or xs k x ≡ x → slice_get xs k ≡ Some x
got_at [] k x lt at = absurd (omega (arith, lt))
got_at (y ∷ xs) zero x lt at = ap Some at
got_at (y ∷ xs) (suc k) x lt at = got_at xs k x (omega (arith, lt)) at

-- what is in a list that was mapped came of something in it
pub came_of : {X Y : Type 0} (f : X → Y) (xs : List X) (y : Y) → Contains (map f xs) y → (x : X) × Contains xs x × (f x ≡ y)
came_of f [] y at = absurd (omega (arith, at.1))
came_of f (x ∷ xs) y (zero, lt, is) = (x, contains_here x xs, is)
came_of f (x ∷ xs) y (suc k, lt, is) =
    let later = came_of f xs y (k, omega (arith, lt), is) in
    (later.0, contains_later later.0 x xs later.1, later.2)

pub goes_to : {X Y : Type 0} (f : X → Y) (xs : List X) (x : X) → Contains xs x → Contains (map f xs) (f x)
goes_to f [] x at = absurd (omega (arith, at.1))
goes_to f (y ∷ xs) x (zero, lt, is) = (0, omega arith, ap f is)
goes_to f (y ∷ xs) x (suc k, lt, is) = contains_later (f x) (f y) (map f xs) (goes_to f xs x (k, omega (arith, lt), is))

-- an item that passes the test stays
pub stays : {X : Type 0} (test : X → Bool) (xs : List X) (x : X) → Contains xs x → test x ≡ true → Contains (filter test xs) x
stays test [] x at passes = absurd (omega (arith, at.1))
stays test (y ∷ xs) x (zero, lt, is) passes = rw (ap test is ∙ passes) (0, omega arith, is)
stays test (y ∷ xs) x (suc k, lt, is) passes =
    let later = stays test xs x (k, omega (arith, lt), is) passes in
    elim (cases_Bool (test y)) [
      | inl here ↦ rw here (contains_later x y (filter test xs) later)
      | inr there ↦ rw there later
    ]

-- what holds of each item holds of all
pub all_of_each : {X : Type 0} (P : X → Type 0) (xs : List X) → ((x : X) → Contains xs x → P x) → AllByRecursion P xs
all_of_each P [] each = tt
all_of_each P (x ∷ xs) each = (each x (contains_here x xs), all_of_each P xs (λ y at. each y (contains_later y x xs at)))

-- what holds of the first items and of the next one holds of these
pub one_more : {X : Type 0} (P : X → Type 0) (xs : List X) (i : ℕ) (x : X) → i < length xs → x ≡ get_or xs i x →
    AllByRecursion P (take i xs) → P x → AllByRecursion P (take (i + 1) xs)
one_more P [] i x lt is all holds = absurd (omega (arith, lt))
one_more P (y ∷ xs) zero x lt is all holds = (subst P is holds, tt)
one_more P (y ∷ xs) (suc i) x lt is all holds =
    let next : suc i + 1 ≡ suc (i + 1) = omega arith in
    subst (λ (n : ℕ). AllByRecursion P (take n (y ∷ xs))) (sym next)
    (all.0, one_more P xs i x (omega (arith, lt)) is all.1 holds)
