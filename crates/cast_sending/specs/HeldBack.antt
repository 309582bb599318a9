-- When a message went to the wire last, and how often it was held back since, over all calls.
use Rattle.std.specs.Prelude.{◌≡◌, ◌≤◌, ◌+◌, ◌∷◌, [], ℕ, Bool, List, Option, None, Some, IfSome}
use Rattle.std.specs.Prelude.{if◌then◌else◌}
use Rattle.cast_types.specs.declared.names.Uid.{Uid}
use Rattle.cast_types.specs.Names.{uid_eq}
use Rattle.cast_sending.specs.Dues.{Dues, due_of, gone, goes_now, Becomes, Learns, SendsAgain}

-- a message goes to the wire at a tick, and the time until it goes there again is doubled so often;
-- one is acknowledged; all are due when the rules say so; or the rules send a message at a tick,
-- which is late after so many, and it goes to the wire or not
pub data Call : Type 0 where
  Note : Uid → ℕ → ℕ → Call
  Forget : Uid → Call
  Clear : Call
  IsDue : Uid → ℕ → ℕ → Bool → Call

-- how often the rules sent a message in vain since it went to the wire last; the latest call comes
-- first
abbrev pub held_since : Uid → List Call → ℕ
held_since id [] = 0
held_since id (Note other tick doublings ∷ before) =
    if uid_eq other id then 0 else held_since id before
held_since id (Forget other ∷ before) = held_since id before
held_since id (Clear ∷ before) = held_since id before
held_since id (IsDue other tick late goes ∷ before) =
    if uid_eq other id then (if goes then 0 else held_since id before + 1) else held_since id before

-- at which tick a message went to the wire last
abbrev pub last_gone : Uid → List Call → Option ℕ
last_gone id [] = None
last_gone id (Note other tick doublings ∷ before) =
    if uid_eq other id then Some tick else last_gone id before
last_gone id (Forget other ∷ before) = last_gone id before
last_gone id (Clear ∷ before) = last_gone id before
last_gone id (IsDue other tick late goes ∷ before) =
    if uid_eq other id
    then (if goes then Some tick else last_gone id before)
    else last_gone id before

-- what is known after these calls, which answered what they do
abbrev pub IsKnownAfter : List Call → Dues → Type 0
IsKnownAfter [] dues = dues ≡ []
IsKnownAfter (Note id tick doublings ∷ before) dues =
    (old : Dues) × IsKnownAfter before old × Learns old id (gone tick doublings) dues
IsKnownAfter (Forget id ∷ before) dues =
    (old : Dues) × IsKnownAfter before old × Becomes old id None dues
IsKnownAfter (Clear ∷ before) dues = (old : Dues) × IsKnownAfter before old × (dues ≡ [])
IsKnownAfter (IsDue id tick late goes ∷ before) dues =
    (old : Dues) × IsKnownAfter before old
    × (goes ≡ goes_now old id tick late)
    × SendsAgain old id tick late dues

-- of eight times in a row that the rules send a message, it goes to the wire once at least
abbrev pub SevenAreHeldBackAtMost : Type 0
SevenAreHeldBackAtMost =
    (id : Uid) (calls : List Call) (dues : Dues) → IsKnownAfter calls dues
    → held_since id calls ≤ 7

-- what is known of a message is when it went to the wire last, and how often the rules sent it in
-- vain since then
abbrev pub KnownIsWhatHappened : Type 0
KnownIsWhatHappened =
    (id : Uid) (calls : List Call) (dues : Dues) → IsKnownAfter calls dues
    → IfSome (due_of dues id)
    (λ due. (last_gone id calls ≡ Some due.tick) × (held_since id calls ≡ due.waits))
