use Rattle.std.proofs.Common.{◌≡◌, take}
use Rattle.cast_ready.proofs.row.copy_rows.Given as goal

-- those so far
abbrev pub invariant-loop-row : goal.invariant-loop-row
invariant-loop-row l = l.copied.items ≡ take l.row-index l.rows
