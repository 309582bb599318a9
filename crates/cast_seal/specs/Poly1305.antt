-- Poly1305 (RFC 8439): a sum of one message under a key that is used for no other.
use Rattle.std.specs.Prelude.{ℕ, zero, suc, ◌+◌, ◌*◌, ◌/◌, ◌%◌, ◌^◌, List, [], ◌∷◌, ◌++◌}
use Rattle.std.specs.Prelude.{length, take, drop, bit_and}

-- 2 ^ 130 - 5
abbrev pub prime : ℕ
prime = 0x3FFFFFFFFFFFFFFFFFFFFFFFFFFFFFFFB

-- the number of bytes, the lowest first
unfoldable pub number_of : List ℕ → ℕ
number_of [] = 0
number_of (b ∷ bs) = b + 256 * number_of bs

-- what is multiplied by: the first half of a key, of which some bits are cleared
abbrev pub multiplier : List ℕ → ℕ
multiplier key = bit_and (number_of (take 16 key)) 0x0FFFFFFC0FFFFFFC0FFFFFFC0FFFFFFF

-- a block of a message, of 16 bytes or of what is left, with a one behind it
abbrev pub block_at : List ℕ → ℕ → List ℕ
block_at message place = take 16 (drop (16 * place) message) ++ 1 ∷ []

-- the number after so many blocks: each was added, and the sum multiplied
unfoldable pub number_after : ℕ → List ℕ → ℕ → ℕ
number_after by message zero = 0
number_after by message (suc n) =
    ((number_after by message n + number_of (block_at message n)) * by) % prime

abbrev pub block_count : List ℕ → ℕ
block_count message = (length message + 15) / 16

-- the sum of a message, as a number
abbrev pub sum_number : List ℕ → List ℕ → ℕ
sum_number key message =
    (number_after (multiplier key) message (block_count message) + number_of (drop 16 key))
    % 2 ^ 128
