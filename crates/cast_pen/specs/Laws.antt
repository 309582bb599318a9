-- What holds of the pen of a program, whatever is done with it.
use Rattle.std.specs.Prelude.{◌≡◌, ◌≤◌, ℕ, ◌+◌, ◌==◌, Bool, true, false, IsTrue, ⊤, List, []}
use Rattle.std.specs.Prelude.{◌∷◌, ◌++◌, drop, length, not, take, Some}
use Rattle.std.specs.List.{list_any}
use Rattle.cast_pen.specs.declared.pen.Place.{Place}
use Rattle.cast_pen.specs.declared.pen.Place.TheVariants as place
use Rattle.cast_pen.specs.Pens.{gets, goes_on, is_missed}
use Rattle.cast_pen.specs.Moves.{Move, Claimed, Called, Took, Wrote, Turned, WentOn, GaveUp, Passed}
use Rattle.cast_pen.specs.Moves.{Fetched, Waited, Closed, Ended, pen_after, holders, passes, owes}
use Rattle.cast_pen.specs.Moves.{in_hand, left_in, streamed, taken}
use Rattle.cast_pen.specs.declared.writing.Next.{Next}
use Rattle.cast_pen.specs.declared.writing.Next.TheVariants.{GoOn, Rest, End}
use Rattle.cast_pen.specs.declared.writing.WriterTask.TheVariants as task
use Rattle.cast_pen.specs.Writing.{Puts, is_full}

-- a thread is among those that have the pen
abbrev pub has : ℕ → List ℕ → Bool
has t holders = list_any (λ u. u == t) holders

-- What is left to those who move: a move that is for a thread with the pen is made by such a one.
-- It takes the outbox with nothing in hand. It goes on with nothing in hand, and once nothing is
-- left in the outbox. It gives up with nothing in hand, and passes what it has in hand.
abbrev pub MayFollow : Move → List Move → Type 0
MayFollow (Claimed t) earlier = ⊤
MayFollow Called earlier = ⊤
MayFollow (Took t pushes) earlier = IsTrue (has t (holders earlier)) × (in_hand earlier ≡ [])
MayFollow (Wrote t n) earlier = IsTrue (has t (holders earlier))
MayFollow (Turned t) earlier = IsTrue (has t (holders earlier))
MayFollow (WentOn t) earlier =
    IsTrue (has t (holders earlier)) × (in_hand earlier ≡ []) × (owes earlier ≡ false)
MayFollow (GaveUp t) earlier = IsTrue (has t (holders earlier)) × (in_hand earlier ≡ [])
MayFollow (Passed t task) earlier =
    IsTrue (has t (holders earlier)) × (left_in task ≡ in_hand earlier)
MayFollow (Fetched t) earlier = ⊤
MayFollow (Waited first times) earlier = ⊤
MayFollow Closed earlier = ⊤
MayFollow (Ended t) earlier = IsTrue (has t (holders earlier))

-- that holds of each move
abbrev pub AreKept : List Move → Type 0
AreKept [] = ⊤
AreKept (m ∷ earlier) = MayFollow m earlier × AreKept earlier

-- it follows a push, and asks that the outbox be taken
abbrev pub asks : Move → Bool
asks (Claimed t) = true
asks Called = true
asks _ = false

-- the outbox is taken, and nothing is left in it
abbrev pub takes : Move → Bool
takes (Took t pushes) = not (is_full pushes)
takes _ = false

abbrev pub closes : Move → Bool
closes Closed = true
closes (Ended t) = true
closes _ = false

abbrev pub writes : Move → Bool
writes (Wrote t n) = true
writes _ = false

-- nobody has the pen, nobody is passed it, and the stream was not closed
pub record IsFree (moves : List Move) : Type 0 where
  pub unheld : holders moves ≡ []
  pub unpassed : passes moves ≡ 0
  pub unclosed : list_any closes moves ≡ false

-- the threads that have the pen and the times that it is on its way are together one at most
abbrev pub OneHolder : Type 0
OneHolder = (moves : List Move) → AreKept moves → length (holders moves) + passes moves ≤ 1

-- once the pen is free, and the last Take has not found no memory, behind each move that asked for
-- a Take there is one that left nothing
abbrev pub NoPushIsLeft : Type 0
NoPushIsLeft =
    (newer older : List Move) (m : Move) → asks m ≡ true → AreKept (newer ++ m ∷ older)
    → IsFree (newer ++ m ∷ older) → is_missed (pen_after (newer ++ m ∷ older)) ≡ false
    → list_any takes newer ≡ true

-- who has written what it took keeps the pen, if no Take that left nothing is behind
-- a move that asked for one
abbrev pub HolderGoesOn : Type 0
HolderGoesOn =
    (newer older : List Move) (m : Move) (t : ℕ) → asks m ≡ true
    → AreKept (WentOn t ∷ newer ++ m ∷ older) → list_any closes (newer ++ m ∷ older) ≡ false
    → list_any takes newer ≡ false → goes_on (pen_after (newer ++ m ∷ older)) ≡ true

-- after a Take that found no memory another is wanted, until the pen is asked for, and then whoever
-- asks gets it
abbrev pub MissedIsWanted : Type 0
MissedIsWanted =
    (newer older : List Move) (t : ℕ) → AreKept (newer ++ GaveUp t ∷ older)
    → list_any closes (newer ++ GaveUp t ∷ older) ≡ false → list_any asks newer ≡ false
    → (is_missed (pen_after (newer ++ GaveUp t ∷ older)) ≡ true)
    × (gets (pen_after (newer ++ GaveUp t ∷ older)) ≡ true)

-- what is passed with the pen, and is still to be written
abbrev pub left_at : Place → List ℕ
left_at place.Free = []
left_at place.Missed = []
left_at place.Held = []
left_at (place.Passed task) = left_in task

-- all that was taken, in the order of the Takes, is what the stream took, and behind that what is
-- in hand or passed: nothing comes twice, and nothing is left out
abbrev pub BytesAreKept : Type 0
BytesAreKept =
    (moves : List Move) → AreKept moves
    → taken moves ≡ streamed moves ++ (in_hand moves ++ left_at (pen_after moves).place)

-- once the pen is free, the stream has taken all of it
abbrev pub AllIsWritten : Type 0
AllIsWritten = (moves : List Move) → AreKept moves → IsFree moves → streamed moves ≡ taken moves

-- once who has the pen has closed the stream, nothing more is written
abbrev pub NothingBehindTheEnd : Type 0
NothingBehindTheEnd =
    (newer older : List Move) (t : ℕ) → AreKept (newer ++ Ended t ∷ older)
    → list_any writes newer ≡ false

-- what is in hand when this is to be done next
abbrev pub HasInHand : Next → List ℕ → Type 0
HasInHand (GoOn more) hand = hand ≡ []
HasInHand (Rest u) hand = left_in (task.Write u) ≡ hand
HasInHand End hand = ⊤

-- What is done with bytes in hand is a move: the stream takes so many of them, and then the others
-- are in hand. So who is to go on has nothing in hand, and what is to be passed is what is in hand.
abbrev pub PuttingIsWriting : Type 0
PuttingIsWriting =
    (old new bytes : List ℕ) (is_last is_more : Bool) (next : Next)
    → Puts ⊤ (Some old) (Some new) bytes is_last is_more next
    → (n : ℕ) × (new ≡ old ++ take n bytes) × HasInHand next (drop n bytes)
