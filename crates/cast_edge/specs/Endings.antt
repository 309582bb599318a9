-- The sessions that are not gone, and how far each is from its end.
use Rattle.std.specs.Prelude.{ℕ, Bool, ◌==◌, if◌then◌else◌, List, [], ◌∷◌, Option, Some, None}
use Rattle.cast_edge.specs.declared.client.Session.{Session}
use Rattle.cast_edge.specs.declared.endings.End.{End}
use Rattle.cast_edge.specs.declared.endings.End.TheVariants.{Ahead, Asked, Due}
use Rattle.cast_edge.specs.declared.endings.Change.{Change}
use Rattle.cast_edge.specs.declared.endings.Change.TheVariants as change
use Rattle.cast_edge.specs.declared.endings.Ending.{Ending}

-- a session was asked for under this number
abbrev pub is_of : ℕ → Ending → Bool
is_of number e = e.number == number

-- a session that is asked for
abbrev pub ahead : ℕ → Ending
ahead number = record { number = number; end = Ahead }

-- the program of the session under a number is gone
abbrev pub ended : ℕ → Session → Ending → Ending
ended number session e = if is_of number e then record e { end = Due session } else e

-- a Gone that was to be handed in is on the way
abbrev pub now_asked : End → End
now_asked Ahead = Ahead
now_asked (Due session) = Asked session
now_asked (Asked session) = Asked session

-- that of the session under a number is
abbrev pub asked_for : ℕ → Ending → Ending
asked_for number e = if is_of number e then record e { end = now_asked e.end } else e

-- a Gone that was on the way is to be handed in again
abbrev pub now_due : End → End
now_due Ahead = Ahead
now_due (Due session) = Due session
now_due (Asked session) = Due session

-- that of the session under a number is
abbrev pub due_again : ℕ → Ending → Ending
due_again number e = if is_of number e then record e { end = now_due e.end } else e

-- this becomes of the session under a number
abbrev pub changed : ℕ → Change → Ending → Ending
changed number (change.Ended session) e = ended number session e
changed number change.Asked e = asked_for number e
changed number change.DueAgain e = due_again number e

-- where a session's Gone is to be handed in, it is the one; else another may be
abbrev pub due_or : ℕ → End → Option (ℕ × Session) → Option (ℕ × Session)
due_or number Ahead other = other
due_or number (Due session) other = Some (number, session)
due_or number (Asked session) other = other

-- the first session whose Gone is to be handed in
abbrev pub next_due : List Ending → Option (ℕ × Session)
next_due [] = None
next_due (e ∷ es) = due_or e.number e.end (next_due es)
