-- One place of a list changed by a function.
use Rattle.std.proofs.Common.{◌≡◌, ℕ, zero, suc, ◌<◌, List, [], ◌∷◌, length, get_or, set, refl, ap, ◌∙◌, arith}
use Rattle.cast_types.specs.Places.{update}

-- to write f of what is at a place
pub set_update : {X : Type 0} (f : X → X) (xs : List X) (i : ℕ) (x y : X) → i < length xs → x ≡ get_or xs i x → y ≡ f x →
    set xs i y ≡ update xs i f
set_update f [] i x y lt read is = absurd (omega arith)
set_update f (z ∷ xs) zero x y lt read is = ap (λ w. w ∷ xs) (is ∙ ap f read)
set_update f (z ∷ xs) (suc i) x y lt read is = ap (λ rest. z ∷ rest) (set_update f xs i x y (omega arith) read is)

-- a place that changes leaves the length
pub length_update : {X : Type 0} (f : X → X) (xs : List X) (i : ℕ) → length (update xs i f) ≡ length xs
length_update f [] i = refl
length_update f (x ∷ xs) zero = refl
length_update f (x ∷ xs) (suc i) = ap suc (length_update f xs i)
