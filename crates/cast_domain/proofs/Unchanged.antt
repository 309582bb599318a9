-- A place of a list that is written and stays as it was.
use Rattle.std.proofs.Common.{◌≡◌, ℕ, zero, suc, ◌<◌, List, [], ◌∷◌, length, get_or, set, ap, ◌∙◌, arith}

-- to write what is at a place changes nothing
pub set_same : {X : Type 0} (xs : List X) (i : ℕ) (x y : X) → i < length xs → x ≡ get_or xs i x → y ≡ x → set xs i y ≡ xs
set_same [] i x y lt read is = absurd (omega arith)
set_same (z ∷ xs) zero x y lt read is = ap (λ w. w ∷ xs) (is ∙ read)
set_same (z ∷ xs) (suc i) x y lt read is = ap (λ rest. z ∷ rest) (set_same xs i x y (omega arith) read is)
