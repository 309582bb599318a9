-- When a received message may be delivered to a process.
-- It may be after all that happened before it, and an ABCAST in its turn.
use Rattle.std.specs.Prelude.{ℕ, Bool, true, false, not, ◌&&◌, ◌||◌, ◌==◌, nat_lt}
use Rattle.std.specs.Prelude.{nat_le, List, map, filter, Option, Some, None}
use Rattle.std.specs.List.{list_all, flat_map, find, range_with_len}
use Rattle.std.specs.Option.{option_map_or}
use Rattle.cast_types.specs.declared.names.GroupNo.{GroupNo}
use Rattle.cast_types.specs.declared.names.Uid.{Uid}
use Rattle.cast_types.specs.declared.names.Standing.{Standing}
use Rattle.cast_types.specs.declared.names.Standing.TheVariants.{Outside, Joining, Member}
use Rattle.cast_types.specs.Names.{Entry, group_eq, entry_eq, uid_eq, uid_in, entry_of, is_atomic}
use Rattle.cast_types.specs.Sets.{is_among}
use Rattle.cast_types.specs.Counts.{CountList, is_within}
use Rattle.cast_types.specs.Stamps.{ClockList}
use Rattle.cast_clock.specs.Times.{clock_of, view_of, join, has_room}
use Rattle.cast_message.specs.declared.message.Message.{Message}
use Rattle.cast_message.specs.Bodies.{kind_of}
use Rattle.cast_ready.specs.declared.gate.Gate.{Gate}
use Rattle.cast_ready.specs.declared.turn.Turn.{Turn}
use Rattle.cast_ready.specs.declared.turn.Turn.TheVariants.{Holding, Following}

-- a local process: its time, what it is in each group, and all that it ever delivered, in order
pub record Process : Type 0 where
  pub time : ClockList
  pub standing : GroupNo → Standing
  pub delivered : List Uid

-- The gate of a group is what of it decides whether its messages may be delivered: the number of
-- its view, whether a flush has frozen it, and the cut of the Install that waits

-- no flush has frozen it
abbrev pub open_gate : ℕ → Gate
open_gate number = record { number = number; frozen = false; cut = None }

-- one has
abbrev pub frozen_gate : Gate → Gate
frozen_gate gate = record gate { frozen = true }

-- and an Install with this cut waits
abbrev pub pending_gate : CountList → Gate → Gate
pending_gate cut gate = record gate { frozen = true; cut = Some cut }

-- there is a cut that covers the message
abbrev pub is_cut_by : Option CountList → Entry → Bool
is_cut_by None e = false
is_cut_by (Some cut) e = is_within cut e

-- the group delivers the message: it is not frozen, or the message is within the cut of the Install
-- that waits
abbrev pub is_open_to : Gate → Entry → Bool
is_open_to gate e = not gate.frozen || is_cut_by gate.cut e

abbrev pub is_member : Standing → Bool
is_member Outside = false
is_member (Joining request heard) = false
is_member Member = true

abbrev pub is_outside : Standing → Bool
is_outside Outside = true
is_outside (Joining request heard) = false
is_outside Member = false

-- the first n messages of a process, or the counts' first messages of each
abbrev pub first_of : Entry → List Entry
first_of e = map (λ k. (e.0, k)) (range_with_len 1 e.1)

abbrev pub covered_entries : CountList → List Entry
covered_entries c = flat_map first_of c

-- the ids of one group that a message's time covers, but for its own
abbrev pub past_in : Message → GroupNo → List Uid
past_in m h =
    filter (λ u. not (uid_eq m.id u))
    (map (uid_in h (view_of m.times h)) (covered_entries (clock_of m.times h).counts))

abbrev pub has_delivered : Process → Uid → Bool
has_delivered p u = is_among uid_eq u p.delivered

-- the process is a member of the message's group and has not delivered it
abbrev pub awaits : Process → Uid → Bool
awaits p id = is_member (p.standing id.group) && not (has_delivered p id)

-- nothing of the group that happened before m is still to be delivered; a joining process takes
-- nothing of a view above the one that it had heard of
abbrev pub group_allows : Standing → Process → Gate → Message → GroupNo → Bool
group_allows Outside p gate m h = true
group_allows (Joining request heard) p gate m h = nat_le (view_of m.times h) heard
group_allows Member p gate m h =
    nat_lt (view_of m.times h) gate.number
    || ((view_of m.times h == gate.number) && list_all (has_delivered p) (past_in m h))

-- causally ready: of the current view of a group of the process, which is not frozen or cuts behind
-- it, not delivered, nothing before it undelivered, and the join of the times within its bound
abbrev pub is_causally_ready : List GroupNo → (GroupNo → Gate) → Process → Message → Bool
is_causally_ready groups gate p m =
    is_member (p.standing m.id.group)
    && ((m.id.view == (gate m.id.group).number)
    && (is_open_to (gate m.id.group) (entry_of m.id)
    && (not (has_delivered p m.id)
    && (list_all (λ h. group_allows (p.standing h) p (gate h) m h) groups
    && has_room (join p.time m.times)))))

-- whether it is an ABCAST's turn for a process. Where the process sets the order, each gets the
-- next place while there is room; else it must be the one that stands next in the known order
abbrev pub has_turn : Turn → Entry → Bool
has_turn (Holding room) e = room
has_turn (Following None) e = false
has_turn (Following (Some next)) e = entry_eq e next

-- the turn of a group in a list of turns: that of the first entry for it; without one nothing of it
-- is known
abbrev pub turn_in : List (GroupNo × Turn) → GroupNo → Turn
turn_in turns g = option_map_or (λ t. t.1) (find (λ t. group_eq t.0 g) turns) (Following None)

-- ready: causally, and an ABCAST also in its turn
abbrev pub is_ready : List GroupNo → (GroupNo → Gate) → (GroupNo → Turn) → Process → Message → Bool
is_ready groups gate turn p m =
    is_causally_ready groups gate p m
    && (not (is_atomic (kind_of m.body)) || has_turn (turn m.id.group) (entry_of m.id))

-- the first message, in order of receipt, that is ready
abbrev pub first_ready : List GroupNo → (GroupNo → Gate) → (GroupNo → Turn) → Process → List Message
    → Option Message
first_ready groups gate turn p got = find (is_ready groups gate turn p) got
