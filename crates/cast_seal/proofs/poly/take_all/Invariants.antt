use Rattle.cast_seal.specs.Words.{IsAfter}
use Rattle.cast_seal.proofs.poly.take_all.Given as goal

-- so many blocks were taken in
abbrev pub invariant-loop-place : goal.invariant-loop-place
invariant-loop-place l = IsAfter l.by l.message l.place l.number
