use Rattle.std.proofs.Common.{◌≡◌, drop, map}
use Rattle.std.specs.String.{string_bytes}
use Rattle.cast_console.specs.Texts.{group_line, groups_text, lines_after}
use Rattle.cast_console.proofs.text.groups_text.Given as goal

-- what is written, and what is left
abbrev pub invariant-loop-group : goal.invariant-loop-group
invariant-loop-group l =
    lines_after (string_bytes l.text) (map group_line (drop l.group-index l.groups)) ≡ groups_text l.groups
