use Rattle.std.proofs.Common.{◌≡◌, false, cond}
use Rattle.cast_timer.specs.declared.key.Moment.{Moment}
use Rattle.cast_timer.specs.declared.key.OwedKey.{OwedKey}
use Rattle.cast_timer.specs.Owed.{is_of_view}
use Rattle.cast_timer.specs.Rows.{IsShaped, IsFilled, is_held}
use Rattle.cast_timer.proofs.Kept.{is_told}
use Rattle.cast_timer.proofs.frames.take_view.Given as goal

-- the keys that are still to be looked at are still to be taken out
abbrev pub invariant-loop-key : goal.invariant-loop-key
invariant-loop-key l = record {
  shaped : IsShaped l.moments.entries;
  filled : IsFilled l.moments.entries;
  held : (p : Moment) (k : OwedKey) → cond (is_told l.domain (is_of_view l.group) l.key-iterator p k) false (is_held l.moments.entries p k)
      ≡ cond (is_told l.domain (is_of_view l.group) l.dues.entries p k) false (is_held l.fn.moments.entries p k);
}
