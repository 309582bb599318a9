use Rattle.std.proofs.Common.{take}
use Rattle.cast_table.specs.Tables.{ArePlaces}
use Rattle.cast_table.proofs.table.places_of.Given as goal

-- the places of the domains so far
abbrev pub invariant-loop-place : goal.invariant-loop-place
invariant-loop-place l = ArePlaces l.places (take l.place l.domain-items)
