use Rattle.std.proofs.Common.{◌≡◌, length}
use Rattle.cast_device.specs.Watching.{HasFailedOrStalled}
use Rattle.cast_device.proofs.Written.{Wrote}
use Rattle.cast_device.proofs.Tries.{tries_left}
use Rattle.cast_device.proofs.whole.write_whole.Given as goal

abbrev pub invariant-loop-rest : goal.invariant-loop-rest
invariant-loop-rest g l =
    (Wrote (g.W.Write.contents l.fn.writer.device) (g.W.Write.contents l.writer.device) l.bytes l.rest)
    × (HasFailedOrStalled l.fn.writer → HasFailedOrStalled l.writer)
    × (l.writer.calls ≡ l.fn.writer.calls)

abbrev pub decreases-loop-rest : goal.decreases-loop-rest
decreases-loop-rest g l = tries_left (length l.rest) l.writer.has_failed l.writer.interruptions
