use Rattle.std.proofs.Common.{take}
use Rattle.std.specs.List.{AllByRecursion}
use Rattle.cast_datagrams.specs.Typed.{FitsProc}
use Rattle.cast_datagrams.proofs.typed.procs_fit.Given as goal

abbrev pub invariant-loop-proc : goal.invariant-loop-proc
invariant-loop-proc l = AllByRecursion FitsProc (take l.proc-index l.procs)
