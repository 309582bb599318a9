use Rattle.std.proofs.Common.{◌-◌, ◌++◌, length, take, map, replicate}
use Rattle.std.specs.Prelude.{bit_xor}
use Rattle.sha2.specs.Hashers.{Holds256}
use Rattle.cast_seal.proofs.key.begin.Given as goal

-- the bytes so far were taken in
abbrev pub invariant-loop-byte : goal.invariant-loop-byte
invariant-loop-byte l = Holds256 l.hasher (map (λ b. bit_xor l.bits b) (take l.byte-index l.key))

-- and for each byte behind the key the bits
abbrev pub invariant-loop-place : goal.invariant-loop-place
invariant-loop-place l = Holds256 l.hasher (map (λ b. bit_xor l.bits b) l.key ++ replicate (l._place - length l.key) l.bits)
