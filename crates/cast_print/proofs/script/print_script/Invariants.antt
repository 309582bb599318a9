use Rattle.std.proofs.Common.{◌≡◌, ◌++◌, drop}
use Rattle.std.specs.String.{string_bytes}
use Rattle.cast_print.specs.Scripts.{events_text, script_text}
use Rattle.cast_print.proofs.script.print_script.Given as goal

-- what is written, and what is left
abbrev pub invariant-loop-event : goal.invariant-loop-event
invariant-loop-event l =
    string_bytes l.text ++ events_text (drop l.event-index l.events) ≡ script_text l.config l.events
