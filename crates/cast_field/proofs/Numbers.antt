-- The number that stands in bytes, highest first, is one number in the words of the crate byteorder and of the standard library.
use Rattle.std.proofs.Common.{◌≡◌, ℕ, List, arith}
use Rattle.std.specs.Int.{w16, w32, from_be_bytes}
use Rattle.byteorder.specs.Endian.{big_number}

pub two_bytes : (bytes : List ℕ) → big_number 2 bytes ≡ from_be_bytes w16 bytes
two_bytes bytes = omega arith

pub four_bytes : (bytes : List ℕ) → big_number 4 bytes ≡ from_be_bytes w32 bytes
four_bytes bytes = omega arith
