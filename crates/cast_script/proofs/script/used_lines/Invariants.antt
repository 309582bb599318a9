use Rattle.std.proofs.Common.{◌≡◌, ◌+◌, ◌++◌, drop, map}
use Rattle.cast_script.specs.Words.{texts}
use Rattle.cast_script.specs.Readings.{numbered_line, used_of}
use Rattle.cast_script.proofs.ScriptLines.{used_from}
use Rattle.cast_script.proofs.script.used_lines.Given as goal

-- what was found, and what is left
abbrev pub invariant-loop-index : goal.invariant-loop-index
invariant-loop-index l =
    map numbered_line l.used.items ++ used_from (l.index + 1) (texts (drop l.index l.lines)) ≡ used_of (texts l.lines)
