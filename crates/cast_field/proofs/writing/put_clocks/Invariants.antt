use Rattle.std.proofs.Common.{◌≡◌, ◌++◌, take}
use Rattle.std.specs.List.{flat_map}
use Rattle.cast_field.specs.Spelling.{spelled_clock}
use Rattle.cast_field.proofs.writing.put_clocks.Given as goal

abbrev pub invariant-loop-group : goal.invariant-loop-group
invariant-loop-group l = l.out.items ≡ l.fn.out.items ++ flat_map spelled_clock (take l.group-index l.clocks)
