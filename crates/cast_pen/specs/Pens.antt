-- The pen of a program: what each call answers, and what it makes of the pen.
use Rattle.std.specs.Prelude.{ℕ, ◌+◌, ◌%◌, ◌-◌, ◌^◌, Bool, true, false, not, ◌&&◌, nat_lt}
use Rattle.std.specs.Prelude.{if◌then◌else◌, Option, Some, None}
use Rattle.cast_pen.specs.declared.pen.Pen.{Pen}
use Rattle.cast_pen.specs.declared.pen.Place.{Place}
use Rattle.cast_pen.specs.declared.pen.Place.TheVariants.{Free, Missed, Held, Passed}
use Rattle.cast_pen.specs.declared.writing.WriterTask.{WriterTask}
use Rattle.cast_pen.specs.declared.writing.WriterTask.TheVariants.{Take}

-- nobody has it, and nothing was done with it
abbrev pub opened : Pen
opened =
    record { place = Free; is_wanted = false; is_over = false; is_awaited = false; turns = 0 }

-- whether a thread has it, or it is passed to the writer
abbrev pub is_taken : Place → Bool
is_taken Free = false
is_taken Missed = false
is_taken Held = true
is_taken (Passed task) = true

-- whether who asks for it gets it
abbrev pub gets : Pen → Bool
gets pen = not pen.is_over && not (is_taken pen.place)

-- what is left where it is asked for: it goes to a place where nobody has it, and else who has it
-- takes the outbox once more; nothing changes once nothing more is written
abbrev pub asked : Place → Pen → Pen
asked place pen =
    if pen.is_over then pen
    else if is_taken pen.place then record pen { is_wanted = true }
    else record pen { place = place; is_wanted = false }

-- a thread asks for it
abbrev pub claimed : Pen → Pen
claimed pen = asked Held pen

-- it is asked that the writer has it
abbrev pub called : Pen → Pen
called pen = asked (Passed Take) pen

-- the reader that waits may go on
abbrev pub turned : Pen → Pen
turned pen = record pen { turns = (pen.turns + 1) % 2 ^ 64 }

-- whether who has it keeps it
abbrev pub goes_on : Pen → Bool
goes_on pen = pen.is_wanted && not pen.is_over

abbrev pub went_on : Pen → Pen
went_on pen =
    turned (record pen { place = if goes_on pen then pen.place else Free; is_wanted = false })

-- the last Take found no memory
abbrev pub given_up : Pen → Pen
given_up pen = turned (record pen { place = Missed; is_wanted = false })

-- the writer gets it, with what it has to do
abbrev pub passed : WriterTask → Pen → Pen
passed task pen = turned (record pen { place = Passed task })

-- what is passed with it
abbrev pub task_at : Place → Option WriterTask
task_at Free = None
task_at Missed = None
task_at Held = None
task_at (Passed task) = Some task

-- what the writer has to do
abbrev pub task_of : Pen → Option WriterTask
task_of pen = if pen.is_over then None else task_at pen.place

-- where the pen is once the writer has looked for it
abbrev pub reached : Place → Place
reached Free = Free
reached Missed = Missed
reached Held = Held
reached (Passed task) = Held

abbrev pub fetched : Pen → Pen
fetched pen = if pen.is_over then pen else record pen { place = reached pen.place }

abbrev pub closed : Pen → Pen
closed pen = record pen { is_over = true }

-- who has it closes it
abbrev pub ended : Pen → Pen
ended pen = record pen { place = Free; is_over = true }

abbrev pub is_missing : Place → Bool
is_missing Free = false
is_missing Missed = true
is_missing Held = false
is_missing (Passed task) = false

-- whether nobody has it, and the last Take found no memory
abbrev pub is_missed : Pen → Bool
is_missed pen = not pen.is_over && is_missing pen.place

-- whether the reader goes on waiting, from that turn on, for so many
abbrev pub waits : ℕ → ℕ → Pen → Bool
waits first times pen =
    not pen.is_over
    && (is_taken pen.place && nat_lt ((pen.turns + (2 ^ 64 - first)) % 2 ^ 64) times)

-- as long as it does, who has the pen takes the outbox once more
abbrev pub waited : ℕ → ℕ → Pen → Pen
waited first times pen =
    if waits first times pen then record pen { is_wanted = true; is_awaited = true }
    else record pen { is_awaited = false }
