-- A key and the zeros behind it, with bits changed.
use Rattle.std.proofs.Common.{◌≡◌, ℕ, zero, suc, List, [], ◌∷◌, ◌++◌, map, replicate, refl, sym, ap}
use Rattle.std.specs.Prelude.{bit_xor}
use lib.Bits.{xor_zero_r}

zeros_padded : (bits n : ℕ) → replicate n bits ≡ map (λ b. bit_xor bits b) (replicate n 0)
zeros_padded bits zero = refl
zeros_padded bits (suc n) = λ i. sym (xor_zero_r bits) i ∷ zeros_padded bits n i

pub padded_parts : (bits n : ℕ) (key : List ℕ) →
    map (λ b. bit_xor bits b) key ++ replicate n bits ≡ map (λ b. bit_xor bits b) (key ++ replicate n 0)
padded_parts bits n [] = zeros_padded bits n
padded_parts bits n (x ∷ key) = ap (λ (l : List ℕ). bit_xor bits x ∷ l) (padded_parts bits n key)
