use Rattle.std.proofs.Common.{◌≡◌, ◌++◌, drop}
use Rattle.std.specs.List.{flat_map}
use Rattle.std.specs.String.{string_bytes}
use Rattle.cast_print.specs.Logs.{member_text}
use Rattle.cast_print.proofs.log.print_procs.Given as goal

-- what is written, and what is left
abbrev pub invariant-loop-process : goal.invariant-loop-process
invariant-loop-process l =
    string_bytes l.text ++ flat_map member_text (drop l.process-index l.procs) ≡ string_bytes l.initial.text ++ flat_map member_text l.procs
