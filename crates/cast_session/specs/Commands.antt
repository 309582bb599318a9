-- What the bytes of a program say: its commands one after the other, up to the first fault.
use Rattle.std.specs.Prelude.{ℕ, zero, suc, List, [], ◌∷◌, ◌++◌, length}
use Rattle.std.specs.Prelude.{drop, Option, Some, None, Result, Ok, Err}
use Rattle.cast_field.specs.declared.fault.FrameFault.{FrameFault}
use Rattle.cast_field.specs.declared.fault.FrameFault.TheVariants.{WrongType}
use Rattle.cast_message.specs.declared.client.ClientFrame.TheVariants as client
use Rattle.cast_client.specs.declared.front.ClientRead.{ClientRead}
use Rattle.cast_client.specs.declared.front.ClientRead.TheVariants.{Frame, More}
use Rattle.cast_message.specs.declared.client.Command.{Command}
use Rattle.cast_message.specs.declared.client.Command.TheVariants.{Request, Bad}
use Rattle.cast_client.specs.Reading.{client_of}

-- the commands, and the fault that ended them
pub record Heard : Type 0 where
  pub commands : List Command
  pub fault : Option FrameFault

abbrev pub nothing : Heard
nothing = record { commands = []; fault = None }

-- a fault is the command `Bad`, and nothing is heard behind it
abbrev pub only_bad : FrameFault → Heard
only_bad e = record { commands = Bad ∷ []; fault = Some e }

-- these commands, and then what is heard behind them
abbrev pub and_then : List Command → Heard → Heard
and_then commands behind = record { commands = commands ++ behind.commands; fault = behind.fault }

-- by what stands at the front: a request, and then what is heard behind it; a push and a fault end
-- it, and a part of a frame says nothing
abbrev pub heard_of : Result ClientRead FrameFault → (ℕ → Heard) → Heard
heard_of (Ok (Frame (client.Request r) n)) behind = and_then (Request r ∷ []) (behind n)
heard_of (Ok (Frame (client.Push p) n)) behind = only_bad WrongType
heard_of (Ok (More n)) behind = nothing
heard_of (Err e) behind = only_bad e

-- of at most so many frames
unfoldable pub commands_within : ℕ → List ℕ → Heard
commands_within zero bytes = nothing
commands_within (suc frames) bytes =
    heard_of (client_of bytes) (λ n. commands_within frames (drop n bytes))

-- of all frames, each of which has a byte at least
unfoldable pub commands_of : List ℕ → Heard
commands_of bytes = commands_within (length bytes) bytes
