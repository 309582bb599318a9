use Rattle.std.proofs.Common.{◌-◌, length}
use Rattle.cast_session.proofs.Pumping.{HandedTo}
use Rattle.cast_session.proofs.incoming.hand_on.Given as goal

abbrev pub invariant-loop-frame : goal.invariant-loop-frame
invariant-loop-frame g l = HandedTo (g.S.Sink.taken l.fn.sink) (g.S.Sink.taken l.sink) l.bytes l.done

abbrev pub decreases-loop-frame : goal.decreases-loop-frame
decreases-loop-frame g l = length l.bytes - l.done
