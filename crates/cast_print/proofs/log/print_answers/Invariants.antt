use Rattle.std.proofs.Common.{◌≡◌, ◌+◌, ◌++◌, drop}
use Rattle.std.specs.String.{string_bytes}
use Rattle.cast_print.specs.Logs.{answer_line, numbered_texts}
use Rattle.cast_print.proofs.log.print_answers.Given as goal

-- what is written, and what is left
abbrev pub invariant-loop-index : goal.invariant-loop-index
invariant-loop-index l =
    string_bytes l.text ++ numbered_texts answer_line (l.index + 1) (drop l.index l.answers)
    ≡ string_bytes l.initial.text ++ numbered_texts answer_line 1 l.answers
