use Rattle.std.proofs.Common.{◌≡◌, drop}
use Rattle.cast_ready.specs.Rows.{has_past}
use Rattle.cast_ready.proofs.row.Row.has_past.Given as goal

-- what is left of the counts decides
abbrev pub invariant-loop-entry : goal.invariant-loop-entry
invariant-loop-entry l = has_past l.self l.id l.group l.view (drop l.entry-index l.counts) ≡ has_past l.self l.id l.group l.view l.counts
