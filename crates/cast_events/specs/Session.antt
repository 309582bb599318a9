-- A session: what its program has still to take, and whether it is open, closed or gone.
use Rattle.std.specs.Prelude.{ℕ, Bool, true, false, nat_le, List, [], ◌∷◌, ◌++◌, length, take, drop}
use Rattle.cast_types.specs.declared.names.Proc.{Proc}
use Rattle.cast_types.specs.declared.refusal.Refusal.{Refusal}
use Rattle.cast_message.specs.declared.client.Push.{Push}
use Rattle.cast_message.specs.declared.client.Push.TheVariants as push
use Rattle.cast_events.specs.declared.session.Status.{Status}
use Rattle.cast_events.specs.declared.session.Status.TheVariants.{Open, Closed, Gone}

pub record Session : Type 0 where
  -- the entries that were pushed and not taken, in order
  pub outbox : List Push
  pub status : Status

-- the session of a serial that was never given, or whose program is gone
abbrev pub no_session : Session
no_session = record { outbox = []; status = Gone }

-- a session begins with the name of its process
abbrev pub first_session : Proc → Session
first_session p = record { outbox = push.Opened p ∷ []; status = Open }

abbrev pub is_open_status : Status → Bool
is_open_status Open = true
is_open_status Closed = false
is_open_status Gone = false

abbrev pub is_open : Session → Bool
is_open s = is_open_status s.status

abbrev pub is_gone_status : Status → Bool
is_gone_status Open = false
is_gone_status Closed = false
is_gone_status Gone = true

abbrev pub is_gone : Session → Bool
is_gone s = is_gone_status s.status

-- as many entries as its quota allows wait to be taken
abbrev pub is_full : ℕ → Session → Bool
is_full limit s = nat_le limit (length s.outbox)

abbrev pub pushed_to : Session → Push → Session
pushed_to s entry = record s { outbox = s.outbox ++ entry ∷ [] }

-- a session is told why it ends, and nothing more
abbrev pub tell_end : Refusal → Session → Session
tell_end refusal s = record (pushed_to s (push.Closed refusal)) { status = Closed }

-- the first entries, at most so many
abbrev pub first_entries : ℕ → Session → List Push
first_entries n s = take n s.outbox

-- and what is left without them
abbrev pub taken_from : ℕ → Session → Session
taken_from n s = record s { outbox = drop n s.outbox }
