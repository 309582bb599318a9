-- What printing promises.
use Rattle.std.specs.Prelude.{◌≡◌, ℕ, List, ◌++◌, Ok}
use Rattle.std.specs.List.{AllByRecursion}
use Rattle.std.specs.Str.{IsAscii}
use Rattle.cast_events.specs.declared.config.Config.{Config}
use Rattle.cast_events.specs.declared.event.Event.{Event}
use Rattle.cast_script.specs.declared.script.Script.{Script}
use Rattle.cast_script.specs.Scripts.{HasDomains}
use Rattle.cast_script.specs.Readings.{script_of}
use Rattle.cast_print.specs.Scripts.{events_text, script_text}
use Rattle.cast_print.specs.Printable.{IsPrintable}

-- what is printed is ASCII, and is read as what was printed
abbrev pub PrintedIsRead : Type 0
PrintedIsRead =
    (config : Config) (events : List Event)
    → HasDomains config
    → AllByRecursion IsPrintable events
    → IsAscii (script_text config events)
    × (script_of (script_text config events) ≡ Ok (record { config = config; events = events }))

-- the text of events behind others follows theirs
abbrev pub PartsJoin : Type 0
PartsJoin =
    (config : Config) (front back : List Event)
    → script_text config (front ++ back) ≡ script_text config front ++ events_text back

-- what a text is read as can be printed
abbrev pub ReadIsPrintable : Type 0
ReadIsPrintable =
    (text : List ℕ) (s : Script) → script_of text ≡ Ok s
    → HasDomains s.config × AllByRecursion IsPrintable s.events
