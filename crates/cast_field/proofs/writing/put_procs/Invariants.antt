use Rattle.std.proofs.Common.{◌≡◌, ◌++◌, take}
use Rattle.std.specs.List.{flat_map}
use Rattle.cast_field.specs.Spelling.{spelled_proc}
use Rattle.cast_field.proofs.writing.put_procs.Given as goal

abbrev pub invariant-loop-proc : goal.invariant-loop-proc
invariant-loop-proc l = l.out.items ≡ l.fn.out.items ++ flat_map spelled_proc (take l.proc-index l.procs)
