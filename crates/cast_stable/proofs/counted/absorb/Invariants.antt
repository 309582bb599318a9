use Rattle.std.proofs.Common.{◌≡◌, length}
use Rattle.cast_stable.specs.Runs.{absorb}
use Rattle.cast_stable.proofs.counted.absorb.Given as goal

-- what is left goes on from the last count as all went on from the first
abbrev pub invariant-loop-next : goal.invariant-loop-next
invariant-loop-next l = absorb l.last l.above.keys ≡ absorb l.count l.fn.above.keys

abbrev pub decreases-loop-next : goal.decreases-loop-next
decreases-loop-next l = length l.above.keys
