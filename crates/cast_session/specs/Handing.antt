-- Commands that are handed on for bytes that were read.
use Rattle.std.specs.Prelude.{◌≡◌, ℕ, ◌≤◌, List, ◌++◌, length, take}
use Rattle.std.specs.Prelude.{drop, Option, Some, Result, Ok, Err}
use Rattle.cast_message.specs.declared.client.Command.{Command}
use Rattle.cast_device.specs.Writing.{IsBeginning}
use Rattle.cast_session.specs.declared.incoming.InEnd.{InEnd}
use Rattle.cast_session.specs.declared.incoming.InEnd.TheVariants as ends
use Rattle.cast_session.specs.Known.{Adds}
use Rattle.cast_session.specs.Commands.{Heard, and_then, commands_of}
use Rattle.cast_session.specs.Pushes.{IsCut}

-- the commands that these bytes say were handed on; what is heard of bytes behind them comes after
-- these commands
pub record HandedOn (old new : Option (List Command)) (bytes : List ℕ) : Type 0 where
  pub commands : List Command
  pub taken : Adds old new commands
  pub whole : (rest : List ℕ) → commands_of (bytes ++ rest) ≡ and_then commands (commands_of rest)

-- which of the commands that were heard were handed on, where the bytes' own fault or want of
-- memory is the end
abbrev pub EndedIn : InEnd → Heard → List Command → Type 0
EndedIn (ends.Bad e) said handed = (handed ≡ said.commands) × (said.fault ≡ Some e)
EndedIn ends.NoMemory said handed = IsBeginning handed said.commands
EndedIn ends.End said handed = ⊥
EndedIn ends.ReadFault said handed = ⊥

pub record StopsIn (old new : Option (List Command)) (bytes : List ℕ) (end : InEnd) : Type 0 where
  pub commands : List Command
  pub taken : Adds old new commands
  pub ended : EndedIn end (commands_of bytes) commands

-- the whole frames at the front were handed on, which have so many bytes; or this ended it
abbrev pub HandsOn : Option (List Command) → Option (List Command) → List ℕ
    → Result ℕ InEnd → Type 0
HandsOn old new bytes (Ok n) =
    (n ≤ length bytes) × HandedOn old new (take n bytes) × IsCut (drop n bytes)
HandsOn old new bytes (Err end) = StopsIn old new bytes end
