use Rattle.std.proofs.Common.{length}
use Rattle.cast_timer.specs.Index.{due_of, Keeps}
use Rattle.cast_timer.proofs.frames.drop_in.Given as goal

abbrev pub invariant-loop-key : goal.invariant-loop-key
invariant-loop-key l = Keeps l.domain l.fn.moments.entries l.moments.entries (due_of l.dues.entries)

abbrev pub decreases-loop-key : goal.decreases-loop-key
decreases-loop-key l = length l.dues.entries
