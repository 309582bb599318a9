-- What the queue keeps means: processes with all that they delivered, and all messages received.
use Rattle.std.specs.Prelude.{◌≡◌, ℕ, ◌<◌, ◌≤◌, true, false, IsTrue, ◌↔◌, List}
use Rattle.std.specs.Prelude.{[], ◌∷◌, ◌++◌, map, Contains, Option, Some, None}
use Rattle.std.specs.FinMap.Entries.{is_sorted}
use Rattle.cast_types.specs.declared.names.GroupNo.{GroupNo}
use Rattle.cast_types.specs.declared.names.Proc.{Proc}
use Rattle.cast_types.specs.declared.names.Key.{Key}
use Rattle.cast_types.specs.declared.names.Uid.{Uid}
use Rattle.cast_types.specs.declared.names.Standing.TheVariants.{Outside}
use Rattle.cast_types.specs.declared.source.Source.{Source}
use Rattle.cast_types.specs.Sources.{source}
use Rattle.cast_types.specs.Names.{group_cmp, group_eq, proc_eq, uid_in, is_atomic}
use Rattle.cast_types.specs.Sets.{is_among, set_at}
use Rattle.cast_clock.specs.Times.{no_time, view_of, count_in, join}
use Rattle.cast_message.specs.declared.message.Message.{Message}
use Rattle.cast_message.specs.declared.message.Received.{Received}
use Rattle.cast_message.specs.Bodies.{kind_of}
use Rattle.cast_message.specs.Receipts.{messages, message_under}
use Rattle.cast_ready.specs.declared.turn.Turn.{Turn}
use Rattle.cast_ready.specs.declared.offered.Offered.{Offered}
use Rattle.cast_ready.specs.declared.row.Row.{Row}
use Rattle.cast_ready.specs.declared.row.ProcessUpdate.{ProcessUpdate}
use Rattle.cast_ready.specs.declared.row.ProcessUpdate.TheVariants as fact
use Rattle.cast_ready.specs.declared.gate.Gate.{Gate}
use Rattle.cast_ready.specs.Ready.{Process, is_member, is_outside}
use Rattle.cast_ready.specs.Ready.{has_delivered, awaits, turn_in, first_ready}
use Rattle.cast_ready.specs.DeliveredCounts.{DeliveredCounts, count_at}
use Rattle.cast_ready.specs.Rows.{gate_in, standing_in, done_in}
use Rattle.cast_delay.specs.Queue.{Queue, row_of}

-- the message's time has its own view and its own count, from 1 on
pub record IsSound (m : Message) : Type 0 where
  pub from_one : 0 < m.id.count
  pub view : view_of m.times m.id.group ≡ m.id.view
  pub count : count_in m.times m.id.group m.id.proc ≡ m.id.count

-- the group's view of this number has not ended: it is the one that stands, or one to come
abbrev pub HasNotEnded : (GroupNo → Gate) → GroupNo → ℕ → Type 0
HasNotEnded gate g view = (gate g).number ≤ view

-- the row tells of the process: in views that have not ended the counts are those of all that it
-- delivered
pub record RowFits (gate : GroupNo → Gate) (p : Process) (row : Row) : Type 0 where
  pub standing : (g : GroupNo) → standing_in row g ≡ p.standing g
  pub in_order : IsTrue (is_sorted group_cmp row.standings)
  pub time : row.time ≡ p.time
  pub counts : (u : Uid) → HasNotEnded gate u.group u.view →
      (has_delivered p u ≡ true) ↔ ((0 < u.count) × (u.count ≤ done_in row u.group u.view u.proc))

-- the row of a process tells of it; a process without a row is in no group, and nothing else is
-- told of it
abbrev pub StandsFor : (GroupNo → Gate) → Process → Option Row → Type 0
StandsFor gate p (Some row) = RowFits gate p row
StandsFor gate p None = (g : GroupNo) → p.standing g ≡ Outside

-- the counts tell how far processes came: in views that have not ended none has delivered a message
-- of a source beyond its count, and each count is of a message that one has delivered
pub record Reaches (gate : GroupNo → Gate) (processes : Proc → Process)
    (reached : DeliveredCounts) : Type 0 where
  pub most : (p : Proc) (u : Uid) → HasNotEnded gate u.group u.view →
      has_delivered (processes p) u ≡ true →
      u.count ≤ count_at reached (source u.group u.view u.proc)
  pub each : (x : Source × ℕ) → Contains reached x → (p : Proc)
      × (has_delivered (processes p) (uid_in x.0.group x.0.view (x.0.process, x.1)) ≡ true)

-- a process that has no time yet and delivered nothing
pub record HasNotBegun (p : Process) : Type 0 where
  pub time : p.time ≡ no_time
  pub delivered : p.delivered ≡ []

abbrev pub offer_of : Received → Offered
offer_of r = record {
  key = r.key;
  id = r.message.id;
  atomic = is_atomic (kind_of r.message.body);
  times = r.message.times;
}

-- the queue tells of these groups, processes and messages in order of receipt
pub record Fits (groups : List GroupNo) (gate : GroupNo → Gate) (processes : Proc → Process)
    (received : List Received) (q : Queue) : Type 0 where
  pub gates : (g : GroupNo) → gate_in q.gates g ≡ gate g
  pub rows : (p : Proc) → StandsFor gate (processes p) (row_of q.rows p)
  pub groups_known : (p : Proc) (g : GroupNo) → is_outside ((processes p).standing g) ≡ false →
      is_among group_eq g groups ≡ true
  pub offered : q.offered ≡ map offer_of received
  pub named : (r : Received) → Contains received r → message_under received r.key ≡ Some r.message
  pub sound : (r : Received) → Contains received r → IsSound r.message
  pub reached : Reaches gate processes q.reached

-- the result is the key of the first message in order of receipt that is ready, and none only where
-- none is
abbrev pub FirstReady : List GroupNo → (GroupNo → Gate) → (GroupNo → Turn) → Process →
    List Received → Option Key → Type 0
FirstReady groups gate turn p received None =
    first_ready groups gate turn p (messages received) ≡ None
FirstReady groups gate turn p received (Some key) =
    (m : Message)
    × (message_under received key ≡ Some m)
    × (first_ready groups gate turn p (messages received) ≡ Some m)

-- the list has the turn of each group that the process is a member of
abbrev pub HasTurns : Process → List (GroupNo × Turn) → (GroupNo → Turn) → Type 0
HasTurns p turns turn = (g : GroupNo) → is_member (p.standing g) ≡ true → turn_in turns g ≡ turn g

-- some process that is a member of the message's group has not delivered it
abbrev pub IsAwaited : (Proc → Process) → Uid → Type 0
IsAwaited processes id = (p : Proc) × (awaits (processes p) id ≡ true)

-- Changes on the side of the meaning

abbrev pub set_process : (Proc → Process) → Proc → Process → Proc → Process
set_process processes p v = set_at proc_eq processes p v

-- the process takes in a fact
abbrev pub tell_process : ProcessUpdate → Process → Process
tell_process (fact.Standing g standing) p =
    record p { standing = set_at group_eq p.standing g standing }
tell_process (fact.Time time) p = record p { time = time }

-- the process delivers a message
abbrev pub delivering : Message → Process → Process
delivering m p = record p { time = join p.time m.times; delivered = p.delivered ++ m.id ∷ [] }

-- a fact that a process is in a group, or joins it, names one of the domain's groups
abbrev pub FactFits : List GroupNo → ProcessUpdate → Type 0
FactFits groups (fact.Standing g standing) =
    is_outside standing ≡ false → is_among group_eq g groups ≡ true
FactFits groups (fact.Time time) = Unit {0}
