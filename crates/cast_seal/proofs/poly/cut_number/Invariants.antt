use Rattle.std.proofs.Common.{◌≡◌, ◌≤◌, ◌++◌, ◌∷◌, [], length, drop}
use Rattle.cast_seal.specs.Poly1305.{number_of}
use Rattle.cast_seal.proofs.poly.cut_number.Given as goal

-- the number of the bytes behind
abbrev pub invariant-loop-place : goal.invariant-loop-place
invariant-loop-place l = (l.place ≤ length l.rest) × (l.number ≡ number_of (drop l.place l.rest ++ 1 ∷ []))

abbrev pub decreases-loop-place : goal.decreases-loop-place
decreases-loop-place l = l.place
