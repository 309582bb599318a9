-- A number in words of 64 bits, and what it says of a message.
use Rattle.std.specs.Prelude.{◌≡◌, ◌≤◌, ℕ, ◌+◌, ◌*◌, ◌%◌, ◌^◌, List}
use Rattle.cast_seal.specs.Poly1305.{prime, number_after}
use Rattle.cast_seal.specs.declared.poly.Multiplier.{Multiplier}
use Rattle.cast_seal.specs.declared.poly.Number.{Number}

abbrev pub value_of : Number → ℕ
value_of n = n.low + n.middle * 2 ^ 64 + n.high * 2 ^ 128

abbrev pub factor_of : Multiplier → ℕ
factor_of by = by.low + 4 * by.quarter * 2 ^ 64

-- the number after so many blocks of a message, but for a multiple of the prime
pub record IsAfter (by : Multiplier) (message : List ℕ) (count : ℕ) (n : Number) : Type 0 where
  pub same : value_of n % prime ≡ number_after (factor_of by) message count % prime
  pub high : n.high ≤ 4
