-- What becomes of sessions over all calls.
use Rattle.std.specs.Prelude.{◌≡◌, ◌⊎◌, ◌++◌, ◌∷◌, [], ℕ, Bool, true, false, List, Contains, Some}
use Rattle.std.specs.Prelude.{if◌then◌else◌, filter, map, not, ◌==◌}
use Rattle.std.specs.List.{list_any}
use Rattle.cast_edge.specs.declared.client.Session.{Session}
use Rattle.cast_edge.specs.declared.endings.End.TheVariants.{Asked, Due}
use Rattle.cast_edge.specs.declared.endings.Ending.{Ending}
use Rattle.cast_edge.specs.Endings.{ahead, asked_for, due_again, ended, is_of, next_due}

-- a session is asked for under a number; it is gone, or was not opened; its program is gone; its
-- Gone is handed in; or that found no memory
pub data Call : Type 0 where
  Add : ℕ → Call
  Remove : ℕ → Call
  End : ℕ → Session → Call
  Ask : ℕ → Call
  AskAgain : ℕ → Call

-- the sessions that are not gone after these calls; the latest call comes first
abbrev pub endings_after : List Call → List Ending
endings_after [] = []
endings_after (Add number ∷ before) = endings_after before ++ ahead number ∷ []
endings_after (Remove number ∷ before) = filter (λ e. not (is_of number e)) (endings_after before)
endings_after (End number session ∷ before) = map (ended number session) (endings_after before)
endings_after (Ask number ∷ before) = map (asked_for number) (endings_after before)
endings_after (AskAgain number ∷ before) = map (due_again number) (endings_after before)

-- a call says that a session is gone, or that its program is
abbrev pub ends : ℕ → Call → Bool
ends number (Add other) = false
ends number (Remove other) = other == number
ends number (End other session) = other == number
ends number (Ask other) = false
ends number (AskAgain other) = false

-- the Gone of a session is to be handed in, or is on the way
abbrev pub IsEnding : ℕ → Session → Ending → Type 0
IsEnding number session e =
    (e.number ≡ number) × ((e.end ≡ Due session) ⊎ (e.end ≡ Asked session))

-- once the program of a session is gone, the session's Gone is to be handed in, or is on the way,
-- until the session is gone
abbrev pub NoEndIsForgotten : Type 0
NoEndIsForgotten =
    (number : ℕ) (session : Session) (later before : List Call) →
    list_any (is_of number) (endings_after before) ≡ true → list_any (ends number) later ≡ false →
    (e : Ending)
    × Contains (endings_after (later ++ End number session ∷ before)) e
    × IsEnding number session e

-- the Gone of a session was handed in, and it is not known that it found no memory
abbrev pub is_on_the_way : ℕ → List Call → Bool
is_on_the_way number [] = false
is_on_the_way number (Add other ∷ before) = is_on_the_way number before
is_on_the_way number (Remove other ∷ before) = is_on_the_way number before
is_on_the_way number (End other session ∷ before) =
    if other == number then false else is_on_the_way number before
is_on_the_way number (Ask other ∷ before) =
    if other == number then true else is_on_the_way number before
is_on_the_way number (AskAgain other ∷ before) =
    if other == number then false else is_on_the_way number before

-- what is on the way is not handed in again
abbrev pub NoneIsAskedTwice : Type 0
NoneIsAskedTwice =
    (number : ℕ) (session : Session) (calls : List Call) →
    is_on_the_way number calls ≡ true → next_due (endings_after calls) ≡ Some (number, session) → ⊥
