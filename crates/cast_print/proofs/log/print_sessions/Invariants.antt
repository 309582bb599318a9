use Rattle.std.proofs.Common.{◌≡◌, ◌+◌, ◌++◌, drop}
use Rattle.std.specs.String.{string_bytes}
use Rattle.cast_print.specs.Logs.{session_text, numbered_texts}
use Rattle.cast_print.proofs.log.print_sessions.Given as goal

-- what is written, and what is left
abbrev pub invariant-loop-index : goal.invariant-loop-index
invariant-loop-index l =
    string_bytes l.text ++ numbered_texts (session_text l.domain) (l.index + 1) (drop l.index l.sessions)
    ≡ string_bytes l.initial.text ++ numbered_texts (session_text l.domain) 1 l.sessions
