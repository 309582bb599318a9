use Rattle.std.proofs.Common.{◌≡◌, take}
use Rattle.cast_ready.proofs.gate.copy_entries.Given as goal

-- those so far
abbrev pub invariant-loop-group : goal.invariant-loop-group
invariant-loop-group l = l.copied.items ≡ take l.group-index l.entries
