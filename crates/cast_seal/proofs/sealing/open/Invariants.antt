use Rattle.std.proofs.Common.{ℕ, ◌<◌, List, slice_index_or}
use Rattle.cast_seal.specs.Seals.{IsSealed}
use Rattle.cast_seal.specs.declared.sealing.SealKey.{SealKey}
use Rattle.cast_seal.proofs.sealing.open.Given as goal

-- none of the keys so far seals the datagram
abbrev pub invariant-loop-key : goal.invariant-loop-key
invariant-loop-key l =
    (k : SealKey) (place : ℕ) (body : List ℕ) → place < l.key-index →
    IsSealed (slice_index_or l.keys place k) l.from l.to body l.datagram → ⊥
