use Rattle.std.proofs.Common.{take}
use Rattle.std.specs.List.{AllByRecursion}
use Rattle.cast_datagrams.specs.Typed.{FitsSent}
use Rattle.cast_datagrams.proofs.typed.frames_fit.Given as goal

abbrev pub invariant-loop-sent : goal.invariant-loop-sent
invariant-loop-sent l = AllByRecursion FitsSent (take l.sent-index l.frames)
