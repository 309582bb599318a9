-- What a worker is asked, and what it is to do.
use Rattle.std.specs.Prelude.{◌≡◌, Bool, true, false, Result, Ok, Err, ◌⊎◌}
use Rattle.cast_types.specs.declared.names.DomainNo.{DomainNo}
use Rattle.cast_types.specs.declared.names.SiteNo.{SiteNo}
use Rattle.cast_message.specs.declared.site.SiteFrame.{SiteFrame}
use Rattle.cast_field.specs.declared.fault.FrameFault.{FrameFault}
use Rattle.cast_field.specs.declared.fault.FrameFault.TheVariants.{NoMemory}
use Rattle.cast_frame.specs.Reading.{site_frame_of}
use Rattle.cast_events.specs.declared.event.Event.TheVariants.{Frame}
use Rattle.cast_events.specs.declared.asked.Asked.{Asked}
use Rattle.cast_events.specs.declared.asked.Asked.TheVariants as asked
use Rattle.cast_pool.specs.declared.task.Task.{Task}
use Rattle.cast_pool.specs.declared.task.Task.TheVariants as task
use Rattle.cast_pool.specs.declared.task.Outcome.{Outcome}
use Rattle.cast_pool.specs.declared.task.Outcome.TheVariants.{Answered, Shown, Undecoded}

-- a frame that came is an event of its domain
abbrev pub frame_task : Result (DomainNo × SiteNo × SiteFrame) FrameFault → Result Task FrameFault
frame_task (Ok x) = Ok (task.Serve (Frame x.0 x.1 x.2))
frame_task (Err fault) = Err fault

-- what is to be done where this is asked, or why its bytes are no frame
abbrev pub task_of : Asked → Result Task FrameFault
task_of (asked.Datagram bytes) = frame_task (site_frame_of bytes)
task_of (asked.Event event) = Ok (task.Serve event)
task_of (asked.Show d) = Ok (task.Show d)

abbrev pub is_datagram : Asked → Bool
is_datagram (asked.Datagram bytes) = true
is_datagram (asked.Event event) = false
is_datagram (asked.Show d) = false

-- it is told that bytes are no frame only of bytes, with their first fault, or that there was no
-- memory to read them
abbrev pub IsUndecoded : Asked → Outcome → Type 0
IsUndecoded asked (Answered answer outs) = ⊥
IsUndecoded asked (Shown shown) = ⊥
IsUndecoded asked (Undecoded fault) =
    (is_datagram asked ≡ true) × ((task_of asked ≡ Err fault) ⊎ (fault ≡ NoMemory))
