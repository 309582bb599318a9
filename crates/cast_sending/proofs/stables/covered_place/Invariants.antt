use Rattle.std.proofs.Common.{ℕ, ◌<◌, get_or}
use Rattle.cast_sending.specs.Frames.{Frame, Covers}
use Rattle.cast_sending.proofs.stables.covered_place.Given as goal

-- it says all of none of those before
abbrev pub invariant-loop-place : goal.invariant-loop-place
invariant-loop-place l = (k : ℕ) (d : Frame) → k < l.place → Covers l.frame (get_or l.waiting k d) → ⊥
