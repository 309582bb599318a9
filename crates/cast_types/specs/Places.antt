-- One place of a list changed by a function.
use Rattle.std.specs.Prelude.{ℕ, zero, suc, List, [], ◌∷◌}

-- the list with f of what stands at a place; past its end the list itself
abbrev pub update : {X : Type 0} → List X → ℕ → (X → X) → List X
update [] i f = []
update (x ∷ xs) zero f = f x ∷ xs
update (x ∷ xs) (suc i) f = x ∷ update xs i f
