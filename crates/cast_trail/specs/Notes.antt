-- What a trace keeps of an answer.
use Rattle.std.specs.Prelude.{length, Option, Some, None, Result, Ok, Err}
use Rattle.cast_events.specs.declared.event.Taken.{Taken}
use Rattle.cast_events.specs.declared.event.Taken.TheVariants as taken
use Rattle.cast_events.specs.declared.log.Fault.{Fault}
use Rattle.cast_events.specs.declared.log.Fault.TheVariants as fault
use Rattle.cast_events.specs.declared.entry.Noted.{Noted}
use Rattle.cast_events.specs.declared.entry.Noted.TheVariants.{Nothing, Opened, Refused}
use Rattle.cast_events.specs.declared.entry.Noted.TheVariants.{Entries, Halted}

-- an answer as a trace keeps it: of entries their number
abbrev pub noted_taken : Taken → Noted
noted_taken taken.Nothing = Nothing
noted_taken (taken.Opened serial) = Opened serial
noted_taken (taken.Refused refusal) = Refused refusal
noted_taken (taken.Entries entries) = Entries (length entries)

-- the same of each answer; an event that was not taken leaves none
abbrev pub noted_of : Result Taken Fault → Option Noted
noted_of (Ok taken) = Some (noted_taken taken)
noted_of (Err fault.NoMemory) = None
noted_of (Err (fault.Halted d)) = Some (Halted d)
noted_of (Err fault.NoDomain) = None
