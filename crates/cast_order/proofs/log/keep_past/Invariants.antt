use Rattle.std.proofs.Common.{◌≡◌, length}
use Rattle.cast_order.specs.Log.{past}
use Rattle.cast_order.proofs.log.keep_past.Given as goal

-- the facts that are left have all that is kept
abbrev pub invariant-loop-place : goal.invariant-loop-place
invariant-loop-place l = past l.known l.facts.entries ≡ past l.known l.fn.facts.entries

abbrev pub decreases-loop-place : goal.decreases-loop-place
decreases-loop-place l = length l.facts.entries
