-- What a pump of commands did when it ended.
use Rattle.std.specs.Prelude.{◌≡◌, ◌≢◌, ℕ, List, [], ◌∷◌, ◌++◌, Option, Some, None}
use Rattle.std.specs.Io.KnownBytes.{Consumes, IsAtEnd}
use Rattle.cast_field.specs.declared.fault.FrameFault.{FrameFault}
use Rattle.cast_field.specs.declared.fault.FrameFault.TheVariants.{NoMemory}
use Rattle.cast_message.specs.declared.client.Command.{Command}
use Rattle.cast_message.specs.declared.client.Command.TheVariants.{Bad}
use Rattle.cast_device.specs.Writing.{IsBeginning}
use Rattle.cast_session.specs.declared.incoming.InEnd.{InEnd}
use Rattle.cast_session.specs.declared.incoming.InEnd.TheVariants as ends
use Rattle.cast_session.specs.Known.{Adds}
use Rattle.cast_session.specs.Commands.{Heard, commands_of}
use Rattle.cast_session.specs.Handing.{HandedOn}
use Rattle.cast_session.specs.Pushes.{IsCut}

-- which of the commands that were heard were handed on, and what is left of the reader
abbrev pub Ended : InEnd → Option (List ℕ) → Heard → List Command → Type 0
Ended ends.End left said handed = IsAtEnd left × (handed ≡ said.commands) × (said.fault ≡ None)
Ended (ends.Bad e) left said handed = (handed ≡ said.commands) × (said.fault ≡ Some e)
Ended ends.ReadFault left said handed = (handed ≡ said.commands) × (said.fault ≡ None)
Ended ends.NoMemory left said handed = IsBeginning handed said.commands

pub record PumpedIn (before left : Option (List ℕ)) (old new : Option (List Command))
    (end : InEnd) : Type 0 where
  -- the bytes that were read
  pub read : List ℕ
  pub consumed : Consumes before left read
  -- the commands that were handed on
  pub handed : List Command
  pub taken : Adds old new handed
  pub ended : Ended end left (commands_of read) handed

-- the frames that were handed on, and then the bytes that are kept of the next one
pub record Pumping (before now : Option (List ℕ)) (old new : Option (List Command))
    (kept : List ℕ) : Type 0 where
  pub done : List ℕ
  pub consumed : Consumes before now (done ++ kept)
  pub handed : HandedOn old new done
  pub cut : IsCut kept

-- the same where it may have ended
abbrev pub PumpsTo : Option (List ℕ) → Option (List ℕ) → Option (List Command)
    → Option (List Command) → List ℕ → Option InEnd → Type 0
PumpsTo before now old new kept None = Pumping before now old new kept
PumpsTo before now old new kept (Some end) = PumpedIn before now old new end

-- what was pumped up to here, from wherever it began, goes on to there
abbrev pub GoesOn : Option (List ℕ) → Option (List ℕ) → Option (List Command)
    → Option (List Command) → List ℕ → List ℕ → Option InEnd → Type 0
GoesOn here there taken taken_there kept kept_there end =
    (before : Option (List ℕ)) (old : Option (List Command)) → Pumping before here old taken kept
    → PumpsTo before there old taken_there kept_there end

-- `Bad` was handed on for this fault of the bytes, or nothing for want of memory
abbrev pub EndsBad : Option (List Command) → Option (List Command) → FrameFault → InEnd → Type 0
EndsBad old new e (ends.Bad f) = (f ≡ e) × (e ≢ NoMemory) × Adds old new (Bad ∷ [])
EndsBad old new e ends.NoMemory = Adds old new []
EndsBad old new e ends.End = ⊥
EndsBad old new e ends.ReadFault = ⊥
