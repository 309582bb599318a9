-- How many casts may follow the oldest message that a site keeps.
use Rattle.std.specs.Prelude.{◌≡◌, ◌⊎◌, ℕ, ◌+◌, ◌-◌, ◌*◌, ◌<◌, ◌≤◌, ◌&&◌, Bool, false, nat_lt}
use Rattle.std.specs.Prelude.{Option, Some, None}

-- so many of each of these sites take at most half of the room that one has, of which a part is
-- left; and one more of each would take it all
pub record IsWindow (held sites window : ℕ) : Type 0 where
  pub some : 1 ≤ window
  pub fits : (window ≡ 1) ⊎ (2 * (window * (sites + 1)) ≤ held)
  pub greatest : held < 2 * ((window + 1) * (sites + 1))

-- so many casts of so many bytes, each as a datagram for each other site with what that takes
-- beside it, fill the room of a socket
abbrev pub taken_by : ℕ → ℕ → ℕ → ℕ
taken_by window sites len = window * ((2 * len + 1024) * (sites - 1))

-- the window of any casts, or a lower one that finds room in a socket, and could not be higher; two
-- may follow in any case
pub record IsFittingWindow (held sites room len window : ℕ) : Type 0 where
  pub all : ℕ
  pub window_of_all : IsWindow held sites all
  pub within : window ≤ all
  pub fits : (window ≤ 2) ⊎ (taken_by window sites len ≤ room)
  pub greatest : (window ≡ all) ⊎ ((2 ≤ window) × (room < taken_by (window + 1) sites len))

-- so many messages, and the windows of all sites with the oldest cast that each keeps and a
-- set-order message for each cast, are as many as may be kept; none, where the windows alone take
-- all room
pub record IsRoomBeside (held sites room : ℕ) : Type 0 where
  pub window : ℕ
  pub is : IsWindow held sites window
  pub left : room ≡ held - 2 * (sites * (window + 1))

-- an event received a message, so that the next one has a higher key; and from the oldest one on
-- that is kept, more were received than there is room for
abbrev pub is_crowded : ℕ → ℕ → Option ℕ → ℕ → Bool
is_crowded before after None room = false
is_crowded before after (Some oldest) room = nat_lt before after && nat_lt room (after - oldest)
