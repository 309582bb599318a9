-- What it is that an event is served.
-- It is applied to the table, and stands at the end of the trace with its answer.
use Rattle.std.specs.Prelude.{◌≡◌, ◌⊎◌, ℕ, ◌+◌, ◌==◌, Bool, true, false, not}
use Rattle.std.specs.Prelude.{if◌then◌else◌, [], ◌∷◌, ◌++◌, length, Result, Ok, Err}
use Rattle.cast_types.specs.declared.refusal.Refusal.TheVariants as refusal
use Rattle.cast_events.specs.declared.event.Event.{Event}
use Rattle.cast_events.specs.declared.event.Outs.{Outs}
use Rattle.cast_events.specs.declared.event.Taken.{Taken}
use Rattle.cast_events.specs.declared.event.Taken.TheVariants.{Refused}
use Rattle.cast_events.specs.declared.log.Fault.{Fault}
use Rattle.cast_events.specs.declared.log.Fault.TheVariants.{NoMemory, Halted, NoDomain}
use Rattle.cast_events.specs.Outs.{no_outs}
use Rattle.cast_table.specs.Tables.{domains_of, lent_of, IsApplied, NotesHalts}
use Rattle.cast_table.specs.Shows.{shown_at}
use Rattle.cast_events.specs.declared.entry.Noted.{Noted}
use Rattle.cast_events.specs.declared.entry.Noted.TheVariants as noted
use Rattle.cast_events.specs.declared.asked.Asked.{Asked}
use Rattle.cast_pool.specs.declared.task.Task.{Task}
use Rattle.cast_pool.specs.declared.task.Task.TheVariants.{Serve, Show}
use Rattle.cast_pool.specs.declared.task.Outcome.{Outcome}
use Rattle.cast_pool.specs.declared.task.Outcome.TheVariants.{Answered, Shown, Undecoded}
use Rattle.cast_pool.specs.Tasks.{IsUndecoded, task_of}
use Rattle.cast_trail.specs.Notes.{noted_taken}
use Rattle.cast_pool.specs.Kept.{Seen, IsLed, is_due, is_full, events_of}

-- the table is as it was, nothing is added to the trace, and its worker has taken as many events as
-- before
abbrev pub IsLeft : Seen → Seen → ℕ → ℕ → Type 0
IsLeft old new was now = (new ≡ old) × (now ≡ was)

-- the trace is empty, and as many events were taken as before
pub record IsTrimmed (old : Seen) (new : Seen) : Type 0 where
  pub config : new.config ≡ old.config
  pub trace : new.trace ≡ []
  pub count : new.count ≡ events_of old
  pub table : new.table ≡ old.table

-- whether what came of a job is that an event halted a domain
abbrev pub halts : Outcome → Bool
halts (Answered answer outs) = not (length outs.halted == 0)
halts (Shown shown) = false
halts (Undecoded fault) = false

-- where that is so the trace is trimmed, and else nothing has changed
abbrev pub IsTrimmedIf : Bool → Seen → Seen → Type 0
IsTrimmedIf true old new = IsTrimmed old new
IsTrimmedIf false old new = new ≡ old

-- an event is applied to the table with this answer, stands at the end of the trace, which was
-- trimmed before where that was due, and is one more that its worker took
pub record IsAdded (event : Event) (answer : Result Taken Fault) (kept : Noted) (outs : Outs)
    (old : Seen) (new : Seen) (was : ℕ) (now : ℕ) : Type 0 where
  pub applied : IsApplied answer event (domains_of old.table) (domains_of new.table)
      (lent_of old.table no_outs) (lent_of new.table outs)
  pub halted : NotesHalts answer event (domains_of old.table) (domains_of new.table) [] outs.halted
  pub trace : new.trace ≡ (if is_due old then [] else old.trace)
      ++ record { event = event; answer = kept; halted = outs.halted } ∷ []
  pub count : new.count ≡ (if is_due old then events_of old else old.count)
  pub config : new.config ≡ old.config
  pub taken : now ≡ was + 1

-- what becomes of an event, by its answer. Where there is no room for its entry, no domain of its
-- number or no memory to begin with, nothing
abbrev pub IsServed : Event → Result Taken Fault → Outs → Seen → Seen → ℕ → ℕ → Type 0
IsServed event (Ok taken) outs old new was now =
    IsAdded event (Ok taken) (noted_taken taken) outs old new was now
IsServed event (Err NoMemory) outs old new was now = (outs ≡ no_outs) × IsLeft old new was now
IsServed event (Err (Halted d)) outs old new was now =
    IsAdded event (Err (Halted d)) (noted.Halted d) outs old new was now
IsServed event (Err NoDomain) outs old new was now =
    IsApplied (Err NoDomain) event (domains_of old.table) (domains_of new.table)
    (lent_of old.table no_outs) (lent_of new.table outs)
    × (outs ≡ no_outs)
    × IsLeft old new was now

-- an event that would take the number of events past its end is refused, as a halted domain
-- refuses, and changes nothing
pub record Serves (event : Event) (answer : Result Taken Fault) (outs : Outs) (old : Seen)
    (new : Seen) (was : ℕ) (now : ℕ) : Type 0 where
  pub full : is_full old ≡ true
      → (answer ≡ Ok (Refused refusal.Halted)) × (outs ≡ no_outs) × IsLeft old new was now
  pub room : is_full old ≡ false → IsServed event answer outs old new was now

-- what a job does, and what comes of it: an event is served, and what a domain shows is no event
abbrev pub IsDone : Task → Outcome → Seen → Seen → ℕ → ℕ → Type 0
IsDone (Serve event) (Answered answer outs) old new was now =
    Serves event answer outs old new was now
IsDone (Serve event) (Shown shown) old new was now = ⊥
IsDone (Serve event) (Undecoded fault) old new was now = ⊥
IsDone (Show d) (Answered answer outs) old new was now = ⊥
IsDone (Show d) (Shown shown) old new was now =
    (shown ≡ shown_at d old.table) × IsLeft old new was now
IsDone (Show d) (Undecoded fault) old new was now = ⊥

-- a job is done with a table to which events lead from the opening, and then the trace is trimmed,
-- if that may be, where that halted a domain
pub record Completes (task : Task) (may_trim : Bool) (outcome : Outcome) (old : Seen) (new : Seen)
    (was : ℕ) (now : ℕ) : Type 0 where
  pub led : IsLed old
  pub between : Seen
  pub done : IsDone task outcome old between was now
  pub trimmed : IsTrimmedIf (if may_trim then halts outcome else false) between new

-- it is done with some such table
abbrev pub IsCompleted : Task → Bool → Outcome → ℕ → ℕ → Type 0
IsCompleted task may_trim outcome was now =
    (old : Seen) × (new : Seen) × Completes task may_trim outcome old new was now

-- this came of what was asked: a job of it is done, or its bytes are no frame and nothing was taken
abbrev pub IsAnswered : Asked → Bool → Outcome → ℕ → ℕ → Type 0
IsAnswered asked may_trim outcome was now =
    ((task : Task)
    × (task_of asked ≡ Ok task)
    × IsCompleted task may_trim outcome was now)
    ⊎ (IsUndecoded asked outcome × (now ≡ was))
