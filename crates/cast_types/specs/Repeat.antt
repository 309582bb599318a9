-- A function applied again and again.
use Rattle.std.specs.Prelude.{◌≡◌, ℕ, zero, suc}

-- n times
abbrev pub iterate : {A : Type 0} → ℕ → (A → A) → A → A
iterate zero f x = x
iterate (suc n) f x = iterate n f (f x)

-- from x some number of passes leads to y, and one more changes nothing
abbrev pub ComesToRest : {A : Type 0} → (A → A) → A → A → Type 0
ComesToRest pass x y = (n : ℕ) × (iterate n pass x ≡ y) × (pass y ≡ y)
