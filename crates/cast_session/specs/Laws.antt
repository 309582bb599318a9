-- What is heard does not depend on how the bytes come.
use Rattle.std.specs.Prelude.{◌≡◌, ℕ, List, [], ◌∷◌, ◌++◌, map, Option, Some, None}
use Rattle.cast_device.specs.Writing.{IsBeginning}
use Rattle.cast_field.specs.declared.fault.FrameFault.{FrameFault}
use Rattle.cast_message.specs.declared.client.Request.{Request}
use Rattle.cast_message.specs.declared.client.Command.{Command}
use Rattle.cast_message.specs.declared.client.Command.TheVariants as command
use Rattle.cast_session.specs.Commands.{commands_of}

-- commands that were heard stay heard when more bytes come
abbrev pub CommandsStay : Type 0
CommandsStay =
    (bytes more : List ℕ)
    → IsBeginning (commands_of bytes).commands (commands_of (bytes ++ more)).commands

-- and behind a fault nothing more is heard
abbrev pub FaultEnds : Type 0
FaultEnds =
    (bytes more : List ℕ) (e : FrameFault) → (commands_of bytes).fault ≡ Some e
    → commands_of (bytes ++ more) ≡ commands_of bytes

-- the one command that a fault is
abbrev pub bad_for : Option FrameFault → List Command
bad_for None = []
bad_for (Some e) = command.Bad ∷ []

-- what is heard is requests, and then `Bad` where there is a fault
abbrev pub RequestsThenBad : Type 0
RequestsThenBad =
    (bytes : List ℕ)
    → (requests : List Request) × ((commands_of bytes).commands
    ≡ map command.Request requests ++ bad_for (commands_of bytes).fault)
