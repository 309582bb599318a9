-- What reading promises.
use Rattle.std.specs.Prelude.{◌≡◌, ℕ, List, Ok}
use Rattle.cast_script.specs.declared.script.Script.{Script}
use Rattle.cast_script.specs.Scripts.{SpellsScript, used_lines_of}
use Rattle.cast_script.specs.Readings.{script_of}

-- what a text is read as, its used lines spell
abbrev pub ReadIsSpelled : Type 0
ReadIsSpelled =
    (text : List ℕ) (s : Script) → script_of text ≡ Ok s → SpellsScript (used_lines_of text) s

-- what the used lines of a text spell, it is read as: a fault comes only where they spell nothing
abbrev pub SpelledIsRead : Type 0
SpelledIsRead =
    (text : List ℕ) (s : Script) → SpellsScript (used_lines_of text) s → script_of text ≡ Ok s
