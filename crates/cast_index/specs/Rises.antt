-- Lists in which a number of each item rises.
use Rattle.std.specs.Prelude.{ℕ, Bool, true, ◌&&◌, nat_lt, List, [], ◌∷◌}
use Rattle.std.specs.List.{list_all}

-- whether each number is below those of all that stand behind it
abbrev pub rises : {X : Type 0} → (X → ℕ) → List X → Bool
rises n [] = true
rises n (x ∷ xs) = list_all (λ y. nat_lt (n x) (n y)) xs && rises n xs

-- whether each is below another number
abbrev pub all_below : {X : Type 0} → (X → ℕ) → ℕ → List X → Bool
all_below n top xs = list_all (λ x. nat_lt (n x) top) xs
