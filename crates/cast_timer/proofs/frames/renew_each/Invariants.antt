use Rattle.std.proofs.Common.{◌≡◌, take}
use Rattle.cast_timer.specs.declared.key.OwedKey.{OwedKey}
use Rattle.cast_timer.specs.Rows.{has_key}
use Rattle.cast_timer.specs.Index.{due_of, moved_to, Keeps}
use Rattle.cast_timer.proofs.frames.renew_each.Given as goal

-- those so far
abbrev pub invariant-loop-key : goal.invariant-loop-key
invariant-loop-key l = record {
  kept : Keeps l.domain l.fn.moments.entries l.moments.entries (due_of l.dues.entries);
  moved : (q : OwedKey) → due_of l.dues.entries q ≡ moved_to l.due (has_key q (take l.key-index l.keys)) (due_of l.fn.dues.entries q);
}
