use Rattle.std.proofs.Common.{◌≡◌}
use Rattle.std.specs.List.{filter_map}
use Rattle.std.specs.String.{string_bytes}
use Rattle.cast_console.specs.Texts.{domains_text, line_at, lines_after, numbers_from}
use Rattle.cast_console.proofs.answers.domains_text.Given as goal

-- what is written, and what is left
abbrev pub invariant-loop-number : goal.invariant-loop-number
invariant-loop-number l =
    lines_after (string_bytes l.text) (filter_map (line_at l.table) (numbers_from l.number)) ≡ domains_text l.table
