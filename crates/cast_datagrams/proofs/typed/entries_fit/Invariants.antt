use Rattle.std.proofs.Common.{take}
use Rattle.std.specs.List.{AllByRecursion}
use Rattle.cast_datagrams.specs.Typed.{FitsEntry}
use Rattle.cast_datagrams.proofs.typed.entries_fit.Given as goal

abbrev pub invariant-loop-entry : goal.invariant-loop-entry
invariant-loop-entry l = AllByRecursion FitsEntry (take l.entry-index l.entries)
