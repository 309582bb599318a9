-- When a message goes to the wire that the rules send, most likely again.
use Rattle.std.specs.Prelude.{◌≡◌, ◌⊎◌, ◌+◌, ◌-◌, ◌*◌, ◌^◌, ◌&&◌, ◌||◌, [], ℕ, Bool, true, List}
use Rattle.std.specs.Prelude.{Option, Some, None, MatchOption, MatchBool, if◌then◌else◌, is_some}
use Rattle.std.specs.Prelude.{length, min, nat_le}
use Rattle.std.specs.Option.{is_none, option_map_or}
use Rattle.std.specs.Map.{lookup}
use Rattle.cast_types.specs.declared.names.Uid.{Uid}
use Rattle.cast_types.specs.Names.{uid_eq}
use Rattle.cast_sending.specs.declared.dues.Due.{Due}

-- what is known of messages that went to the wire
abbrev pub Dues : Type 0
Dues = List (Uid × Due)

abbrev pub due_of : Dues → Uid → Option Due
due_of dues id = lookup (uid_eq id) dues

-- a message goes to the wire at this tick, and the time until it goes there again is doubled so
-- often
abbrev pub gone : ℕ → ℕ → Due
gone tick doublings = record { tick = tick; doublings = doublings; waits = 0 }

-- it goes there once more: the time is doubled once more, three times at most
abbrev pub gone_again : Due → ℕ → Due
gone_again due tick = gone tick (min (due.doublings + 1) 3)

-- the rules sent it, and it did not go there
abbrev pub held_back : Due → Due
held_back due = record due { waits = due.waits + 1 }

-- how often the rules send it until it goes there
abbrev pub times_of : Due → ℕ
times_of due = 2 ^ min due.doublings 3

-- with this time they sent it so often since it went there last, and so many times `late` ticks
-- went by since then, as far as a `u64` counts
abbrev pub waited_long : Due → ℕ → ℕ → Bool
waited_long due tick late =
    nat_le (times_of due) (due.waits + 1)
    && nat_le (min (late * times_of due) (2 ^ 64 - 1)) (tick - due.tick)

-- then it goes there; and each eighth time, however few ticks went by
abbrev pub goes_again : Due → ℕ → ℕ → Bool
goes_again due tick late = nat_le 8 (due.waits + 1) || waited_long due tick late

-- a message of which nothing is known goes there at once
abbrev pub goes_now : Dues → Uid → ℕ → ℕ → Bool
goes_now dues id tick late =
    option_map_or (λ due. goes_again due tick late) (due_of dues id) true

-- of how many messages this is known: one, or none
abbrev pub count_known : Option Due → ℕ
count_known due = if is_some due then 1 else 0

-- this is known of a message then, or nothing; and of each other what was known of it
pub record Becomes (old : Dues) (id : Uid) (due : Option Due) (new : Dues) : Type 0 where
  pub each : (other : Uid) → due_of new other ≡ (if uid_eq id other then due else due_of old other)
  pub count : length new + count_known (due_of old id) ≡ length old + count_known due

-- what stays known where something is to be known of a message: nothing, if 4,096 others are known
abbrev pub kept_beside : Dues → Uid → Dues
kept_beside dues id =
    if nat_le 4096 (length dues) && is_none (due_of dues id) then [] else dues

-- this is known of a message then; or still nothing, if there is no memory for it
abbrev pub Learns : Dues → Uid → Due → Dues → Type 0
Learns old id due new =
    Becomes (kept_beside old id) id (Some due) new
    ⊎ ((due_of old id ≡ None) × (new ≡ kept_beside old id))

-- the rules send a message at a tick, which is late after so many: it goes to the wire, or is held
-- back
abbrev pub SendsAgain : Dues → Uid → ℕ → ℕ → Dues → Type 0
SendsAgain old id tick late new =
    MatchOption (due_of old id) (Learns old id (gone tick 0) new)
    (λ due. MatchBool (goes_again due tick late) (Learns old id (gone_again due tick) new)
    (Becomes old id (Some (held_back due)) new))
