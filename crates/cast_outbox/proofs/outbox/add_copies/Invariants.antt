use Rattle.std.proofs.Common.{◌≡◌, ◌++◌, take}
use Rattle.cast_outbox.proofs.outbox.add_copies.Given as goal

-- those so far
abbrev pub invariant-loop-entry : goal.invariant-loop-entry
invariant-loop-entry l = l.copied.items ≡ l.fn.copied.items ++ take l.entry-index l.entries
