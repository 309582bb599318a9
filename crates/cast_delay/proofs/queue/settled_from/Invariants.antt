use Rattle.std.proofs.Common.{◌-◌, length}
use Rattle.cast_delay.specs.Settled.{AreSettled}
use Rattle.cast_delay.proofs.queue.settled_from.Given as goal

-- those so far are settled
abbrev pub invariant-loop-settled : goal.invariant-loop-settled
invariant-loop-settled l = AreSettled l.gates l.rows l.offered l.settled

abbrev pub decreases-loop-settled : goal.decreases-loop-settled
decreases-loop-settled l = length l.offered - l.settled
