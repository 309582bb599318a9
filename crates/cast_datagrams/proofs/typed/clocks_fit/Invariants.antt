use Rattle.std.proofs.Common.{take}
use Rattle.std.specs.List.{AllByRecursion}
use Rattle.cast_datagrams.specs.Typed.{FitsClock}
use Rattle.cast_datagrams.proofs.typed.clocks_fit.Given as goal

abbrev pub invariant-loop-entry : goal.invariant-loop-entry
invariant-loop-entry l = AllByRecursion FitsClock (take l.entry-index l.clocks)
