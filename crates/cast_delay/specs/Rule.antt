-- The delivery rule in words, id by id.
use Rattle.std.specs.Prelude.{◌≡◌, ◌≢◌, ◌↔◌, ◌⊎◌, ◌<◌, ◌≤◌, true, false}
use Rattle.std.specs.Prelude.{IsTrue, List, Contains, Option, Some, None}
use Rattle.cast_types.specs.declared.names.GroupNo.{GroupNo}
use Rattle.cast_types.specs.declared.names.Uid.{Uid}
use Rattle.cast_types.specs.declared.names.Standing.{Standing}
use Rattle.cast_types.specs.declared.names.Standing.TheVariants.{Outside, Joining, Member}
use Rattle.cast_types.specs.declared.names.Kind.TheVariants.{Atomic}
use Rattle.cast_types.specs.Names.{Entry, entry_of}
use Rattle.cast_clock.specs.Times.{view_of, count_in, join, has_room}
use Rattle.cast_clock.specs.Laws.{is_in_order}
use Rattle.cast_message.specs.declared.message.Message.{Message}
use Rattle.cast_message.specs.Bodies.{kind_of}
use Rattle.cast_ready.specs.declared.turn.Turn.{Turn}
use Rattle.cast_ready.specs.declared.turn.Turn.TheVariants.{Holding, Following}
use Rattle.cast_types.specs.Counts.{CountList, count_of}
use Rattle.cast_ready.specs.declared.gate.Gate.{Gate}
use Rattle.cast_ready.specs.Ready.{Process, is_causally_ready, is_ready}

-- a message of a group that the time of m covers, other than m
pub record HappenedBefore (m : Message) (h : GroupNo) (u : Uid) : Type 0 where
  pub group : u.group ≡ h
  pub view : u.view ≡ view_of m.times h
  pub from_one : 0 < u.count
  pub covered : u.count ≤ count_in m.times h u.proc
  pub other : u ≢ m.id

-- what is asked of a group, by what the process is in it. A member has delivered all that happened
-- before m in the group's view, unless m knows only an earlier view; a joining process takes no
-- message that knows a later view than the process knew when it asked
abbrev pub Allows : Standing → Process → Gate → Message → GroupNo → Type 0
Allows Outside p gate m h = Unit {0}
Allows (Joining request heard) p gate m h = view_of m.times h ≤ heard
Allows Member p gate m h =
    (view_of m.times h < gate.number)
    ⊎ ((view_of m.times h ≡ gate.number)
    × ((u : Uid) → HappenedBefore m h u → Contains p.delivered u))

-- there is a cut, and it has as many messages of the process as the count says
abbrev pub IsCutBy : Option CountList → Entry → Type 0
IsCutBy None e = ⊥
IsCutBy (Some cut) e = e.1 ≤ count_of cut e.0

-- a group delivers a message: no flush has frozen it, or the message is within the cut of the
-- Install that waits
abbrev pub IsOpenTo : Gate → Entry → Type 0
IsOpenTo gate e = (gate.frozen ≡ false) ⊎ IsCutBy gate.cut e

-- m may be delivered to p now, as far as what happened before it goes
pub record MayBeDelivered (groups : List GroupNo) (gate : GroupNo → Gate) (p : Process)
    (m : Message) : Type 0 where
  pub member : p.standing m.id.group ≡ Member
  pub current : m.id.view ≡ (gate m.id.group).number
  pub opened : IsOpenTo (gate m.id.group) (entry_of m.id)
  pub undelivered : ¬ (Contains p.delivered m.id)
  pub allowed : (h : GroupNo) → Contains groups h → Allows (p.standing h) p (gate h) m h
  pub room : has_room (join p.time m.times) ≡ true

-- what a turn asks of an ABCAST: room for one more place where the order is held here, and
-- elsewhere to be the very one that stands next
abbrev pub IsTurnOf : Turn → Entry → Type 0
IsTurnOf (Holding room) e = room ≡ true
IsTurnOf (Following None) e = ⊥
IsTurnOf (Following (Some next)) e = e ≡ next

-- m may be delivered to p now: if it is an ABCAST, only in its turn
pub record MayBeDeliveredInTurn (groups : List GroupNo) (gate : GroupNo → Gate)
    (turn : GroupNo → Turn) (p : Process) (m : Message) : Type 0 where
  pub causally : MayBeDelivered groups gate p m
  pub in_turn : kind_of m.body ≡ Atomic → IsTurnOf (turn m.id.group) (entry_of m.id)

-- the test of causal readiness says the first of these
abbrev pub RuleInWords : Type 0
RuleInWords =
    (groups : List GroupNo) (gate : GroupNo → Gate) (p : Process) (m : Message)
    → IsTrue (is_in_order m.times)
    → (is_causally_ready groups gate p m ≡ true) ↔ MayBeDelivered groups gate p m

-- and the test of readiness the second
abbrev pub TurnInWords : Type 0
TurnInWords =
    (groups : List GroupNo) (gate : GroupNo → Gate) (turn : GroupNo → Turn) (p : Process)
    (m : Message) → IsTrue (is_in_order m.times)
    → (is_ready groups gate turn p m ≡ true) ↔ MayBeDeliveredInTurn groups gate turn p m
