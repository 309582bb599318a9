use Rattle.cast_device.specs.Watching.{HasFailedOrStalled}
use Rattle.cast_session.proofs.Pushes.{WroteTo}
use Rattle.cast_session.proofs.outgoing.pump_out.Given as goal

abbrev pub invariant-loop-push : goal.invariant-loop-push
invariant-loop-push g l =
    WroteTo (g.W.Write.contents l.fn.writer.device) (g.W.Write.contents l.writer.device) l.pushes l.push-index
    × (HasFailedOrStalled l.writer → ⊥)
