use Rattle.std.proofs.Common.{◌≡◌, None, cond, length}
use Rattle.cast_timer.specs.declared.key.OwedKey.{OwedKey}
use Rattle.cast_timer.specs.Owed.{is_upto}
use Rattle.cast_timer.specs.Index.{due_of, Keeps}
use Rattle.cast_timer.proofs.frames.pay_upto_in.Given as goal

-- only frames of such keys were paid
abbrev pub invariant-loop-due : goal.invariant-loop-due
invariant-loop-due l = record {
  kept : Keeps l.domain l.fn.moments.entries l.moments.entries (due_of l.dues.entries);
  paid : (q : OwedKey) → cond (is_upto l.key q) None (due_of l.dues.entries q) ≡ cond (is_upto l.key q) None (due_of l.fn.dues.entries q);
}

abbrev pub decreases-loop-due : goal.decreases-loop-due
decreases-loop-due l = length l.dues.entries
