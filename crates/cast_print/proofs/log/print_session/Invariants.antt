use Rattle.std.proofs.Common.{◌≡◌, ◌++◌, drop}
use Rattle.std.specs.List.{flat_map}
use Rattle.std.specs.String.{string_bytes}
use Rattle.cast_print.specs.Logs.{push_line, session_text}
use Rattle.cast_print.proofs.log.print_session.Given as goal

-- what is written, and what is left
abbrev pub invariant-loop-push : goal.invariant-loop-push
invariant-loop-push l =
    string_bytes l.text ++ flat_map (push_line l.domain l.serial) (drop l.push-index l.pushes)
    ≡ string_bytes l.initial.text ++ session_text l.domain l.serial l.pushes
