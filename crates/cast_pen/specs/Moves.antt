-- What is done with the pen of a program, in the order in which its lock has it: the newest first.
-- Threads have numbers.
use Rattle.std.specs.Prelude.{ℕ, ◌+◌, ◌-◌, ◌==◌, Bool, false, not, ◌||◌, is_some}
use Rattle.std.specs.Prelude.{if◌then◌else◌, List, [], ◌∷◌, ◌++◌, drop, filter, take}
use Rattle.std.specs.Prelude.{Option, Some, None}
use Rattle.cast_message.specs.declared.client.Push.{Push}
use Rattle.cast_session.specs.Outgoing.{spelled_pushes}
use Rattle.cast_pen.specs.declared.pen.Pen.{Pen}
use Rattle.cast_pen.specs.declared.writing.WriterTask.{WriterTask}
use Rattle.cast_pen.specs.declared.writing.WriterTask.TheVariants as task
use Rattle.cast_pen.specs.Pens.{opened, gets, claimed, called, goes_on, went_on, given_up, turned}
use Rattle.cast_pen.specs.Pens.{passed, task_of, fetched, closed, ended, waited}
use Rattle.cast_pen.specs.Writing.{is_full, left_of}

pub data Move : Type 0 where
  -- a thread claims the pen
  Claimed : (thread : ℕ) → Move
  -- the session was pushed to
  Called : Move
  -- who has the pen takes the outbox, which had these; a Take that finds no memory is no move
  Took : (thread : ℕ) (pushes : List Push) → Move
  -- who has the pen writes to the stream, which takes so many bytes
  Wrote : (thread : ℕ) (count : ℕ) → Move
  -- who has the pen tells that the outbox was taken
  Turned : (thread : ℕ) → Move
  -- who has the pen has written what it took
  WentOn : (thread : ℕ) → Move
  -- who has the pen has found no memory
  GaveUp : (thread : ℕ) → Move
  -- who has the pen passes it to the writer
  Passed : (thread : ℕ) (task : WriterTask) → Move
  -- the writer looks for what it has to do
  Fetched : (thread : ℕ) → Move
  -- the reader waits
  Waited : (first : ℕ) (times : ℕ) → Move
  -- nothing more is written
  Closed : Move
  -- who has the pen closes the stream
  Ended : (thread : ℕ) → Move

-- what a move makes of the pen
abbrev pub after : Pen → Move → Pen
after pen (Claimed t) = claimed pen
after pen Called = called pen
after pen (Took t pushes) = pen
after pen (Wrote t n) = pen
after pen (Turned t) = turned pen
after pen (WentOn t) = went_on pen
after pen (GaveUp t) = given_up pen
after pen (Passed t task) = passed task pen
after pen (Fetched t) = fetched pen
after pen (Waited first times) = waited first times pen
after pen Closed = closed pen
after pen (Ended t) = ended pen

-- the pen after all of them
abbrev pub pen_after : List Move → Pen
pen_after [] = opened
pen_after (m ∷ earlier) = after (pen_after earlier) m

-- Who has the pen, by what each move was answered

abbrev pub without : ℕ → List ℕ → List ℕ
without t holders = filter (λ u. not (u == t)) holders

-- a thread that gets the pen is one more, and one that gives it back or passes it is one less
abbrev pub holding : Move → Pen → List ℕ → List ℕ
holding (Claimed t) pen holders = if gets pen then t ∷ holders else holders
holding Called pen holders = holders
holding (Took t pushes) pen holders = holders
holding (Wrote t n) pen holders = holders
holding (Turned t) pen holders = holders
holding (WentOn t) pen holders = if goes_on pen then holders else without t holders
holding (GaveUp t) pen holders = without t holders
holding (Passed t task) pen holders = without t holders
holding (Fetched t) pen holders = if is_some (task_of pen) then t ∷ holders else holders
holding (Waited first times) pen holders = holders
holding Closed pen holders = holders
holding (Ended t) pen holders = without t holders

-- the threads that have the pen
abbrev pub holders : List Move → List ℕ
holders [] = []
holders (m ∷ earlier) = holding m (pen_after earlier) (holders earlier)

-- how often it is on its way to the writer: a call or a thread has passed it, and the writer has
-- not got it
abbrev pub passing : Move → Pen → ℕ → ℕ
passing (Claimed t) pen n = n
passing Called pen n = if gets pen then n + 1 else n
passing (Took t pushes) pen n = n
passing (Wrote t k) pen n = n
passing (Turned t) pen n = n
passing (WentOn t) pen n = n
passing (GaveUp t) pen n = n
passing (Passed t task) pen n = n + 1
passing (Fetched t) pen n = if is_some (task_of pen) then n - 1 else n
passing (Waited first times) pen n = n
passing Closed pen n = n
passing (Ended t) pen n = n

abbrev pub passes : List Move → ℕ
passes [] = 0
passes (m ∷ earlier) = passing m (pen_after earlier) (passes earlier)

-- whether who has the pen, or gets it from its way, has still to take the outbox: it has not done
-- so, or the last Take may have left some
abbrev pub owing : Move → Pen → Bool → Bool
owing (Claimed t) pen owes = gets pen || owes
owing Called pen owes = gets pen || owes
owing (Took t pushes) pen owes = is_full pushes
owing (Wrote t n) pen owes = owes
owing (Turned t) pen owes = owes
owing (WentOn t) pen owes = goes_on pen || owes
owing (GaveUp t) pen owes = owes
owing (Passed t task) pen owes = owes
owing (Fetched t) pen owes = owes
owing (Waited first times) pen owes = owes
owing Closed pen owes = owes
owing (Ended t) pen owes = owes

abbrev pub owes : List Move → Bool
owes [] = false
owes (m ∷ earlier) = owing m (pen_after earlier) (owes earlier)

-- The bytes

-- what is to be written first
abbrev pub left_in : WriterTask → List ℕ
left_in task.Take = []
left_in (task.Write u) = left_of u

-- what the writer has in hand if it gets this
abbrev pub handed : Option WriterTask → List ℕ → List ℕ
handed None hand = hand
handed (Some task) hand = left_in task

-- what is taken and not written, in the hand of who has the pen
abbrev pub handing : Move → Pen → List ℕ → List ℕ
handing (Claimed t) pen hand = hand
handing Called pen hand = hand
handing (Took t pushes) pen hand = spelled_pushes pushes
handing (Wrote t n) pen hand = drop n hand
handing (Turned t) pen hand = hand
handing (WentOn t) pen hand = hand
handing (GaveUp t) pen hand = hand
handing (Passed t task) pen hand = []
handing (Fetched t) pen hand = handed (task_of pen) hand
handing (Waited first times) pen hand = hand
handing Closed pen hand = hand
handing (Ended t) pen hand = hand

abbrev pub in_hand : List Move → List ℕ
in_hand [] = []
in_hand (m ∷ earlier) = handing m (pen_after earlier) (in_hand earlier)

-- What all that was taken is in bytes, in the order of the Takes
abbrev pub taken : List Move → List ℕ
taken [] = []
taken (Took t pushes ∷ earlier) = taken earlier ++ spelled_pushes pushes
taken (_ ∷ earlier) = taken earlier

-- what the stream took
abbrev pub streamed : List Move → List ℕ
streamed [] = []
streamed (Wrote t n ∷ earlier) = streamed earlier ++ take n (in_hand earlier)
streamed (_ ∷ earlier) = streamed earlier
