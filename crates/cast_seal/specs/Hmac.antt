-- HMAC with SHA-256 (RFC 2104, FIPS 198-1): a sum of a message under a key.
use Rattle.std.specs.Prelude.{ℕ, ◌-◌, nat_lt, List, ◌++◌, length, map, replicate, bit_xor}
use Rattle.std.specs.Prelude.{if◌then◌else◌}
use Rattle.sha2.specs.Sha256.{sha256}

-- what counts of a key: itself, or its digest where it is longer than a block
abbrev pub short_key : List ℕ → List ℕ
short_key key = if nat_lt 64 (length key) then sha256 key else key

-- a key as a block of 64 bytes, with zeros behind it, of which these bits are changed
abbrev pub padded : ℕ → List ℕ → List ℕ
padded bits key = map (λ b. bit_xor bits b) (key ++ replicate (64 - length key) 0)

-- the sum of a message under a key that is not longer than a block
abbrev pub sum_under : List ℕ → List ℕ → List ℕ
sum_under key message = sha256 (padded 0x5C key ++ sha256 (padded 0x36 key ++ message))
