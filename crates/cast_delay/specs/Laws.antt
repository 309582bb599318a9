-- The queue keeps its meaning: what changes it changes what it means in the same way.
use Rattle.std.specs.Prelude.{◌≡◌, ℕ, ◌<◌, ◌≤◌, true, not, List, [], ◌∷◌, ◌++◌, filter, Some, None}
use Rattle.std.specs.Option.{IsSome}
use Rattle.std.specs.FinMap.Entries.{put}
use Rattle.cast_types.specs.declared.names.GroupNo.{GroupNo}
use Rattle.cast_types.specs.declared.names.Standing.TheVariants.{Outside}
use Rattle.cast_types.specs.declared.names.Proc.{Proc}
use Rattle.cast_types.specs.declared.names.Key.{Key}
use Rattle.cast_types.specs.declared.names.Uid.{Uid}
use Rattle.cast_types.specs.Names.{group_cmp, group_eq}
use Rattle.cast_types.specs.Sets.{set_at}
use Rattle.cast_clock.specs.Times.{no_time}
use Rattle.cast_message.specs.declared.message.Message.{Message}
use Rattle.cast_message.specs.declared.message.Received.{Received}
use Rattle.cast_message.specs.Receipts.{key_eq, message_under}
use Rattle.cast_ready.specs.declared.turn.Turn.{Turn}
use Rattle.cast_ready.specs.declared.row.Row.{Row}
use Rattle.cast_ready.specs.declared.row.ProcessUpdate.{ProcessUpdate}
use Rattle.cast_types.specs.Counts.{CountList}
use Rattle.cast_ready.specs.declared.gate.Gate.{Gate}
use Rattle.cast_ready.specs.Ready.{Process, open_gate, frozen_gate, pending_gate}
use Rattle.cast_ready.specs.Ready.{has_delivered, awaits, is_causally_ready, is_ready}
use Rattle.cast_ready.specs.Rows.{gate_in, told_row, is_causally_ready_row}
use Rattle.cast_ready.specs.Rows.{is_ready_row, has_delivered_in, awaits_row, new_row}
use Rattle.cast_delay.specs.Queue.{Queue, row_of, but_row, change_row, next_key}
use Rattle.cast_delay.specs.Queue.{but_offered, queue_viewing, queue_delivering}
use Rattle.cast_delay.specs.Fits.{Fits, FirstReady, HasTurns, IsSound, HasNotEnded, HasNotBegun}
use Rattle.cast_delay.specs.Fits.{offer_of, set_process, tell_process, delivering, FactFits}

-- by what the queue keeps of a process, a message is causally ready exactly if it is by what the
-- process delivered
abbrev pub RowMeansTheRule : Type 0
RowMeansTheRule =
    (groups : List GroupNo) (gate : GroupNo → Gate) (processes : Proc → Process)
    (received : List Received) (q : Queue)
    → Fits groups gate processes received q → (p : Proc) (row : Row) (m : Message)
    → row_of q.rows p ≡ Some row → IsSound m
    → is_causally_ready_row q.gates row m.id m.times ≡ is_causally_ready groups gate (processes p) m

-- and with the turns of its groups, a message that is offered is ready exactly if it is by what the
-- process delivered
abbrev pub TurnMeansTheRule : Type 0
TurnMeansTheRule =
    (groups : List GroupNo) (gate : GroupNo → Gate) (processes : Proc → Process)
    (received : List Received) (q : Queue)
    → Fits groups gate processes received q
    → (p : Proc) (turns : List (GroupNo × Turn)) (turn : GroupNo → Turn)
    → HasTurns (processes p) turns turn → (row : Row) (r : Received)
    → row_of q.rows p ≡ Some row → IsSound r.message
    → is_ready_row turns q.gates row (offer_of r)
    ≡ is_ready groups gate turn (processes p) r.message

-- by what the queue keeps of a process, it has delivered a message of a view that has not ended
-- exactly if that is among what it delivered
abbrev pub DeliveredIsTheRule : Type 0
DeliveredIsTheRule =
    (groups : List GroupNo) (gate : GroupNo → Gate) (processes : Proc → Process)
    (received : List Received) (q : Queue)
    → Fits groups gate processes received q → (p : Proc) (row : Row)
    → row_of q.rows p ≡ Some row → (id : Uid) → HasNotEnded gate id.group id.view
    → has_delivered_in row id ≡ has_delivered (processes p) id

-- by what the queue keeps of a process, it awaits a message of a view that has not ended exactly if
-- it does by what it delivered
abbrev pub AwaitedIsTheRule : Type 0
AwaitedIsTheRule =
    (groups : List GroupNo) (gate : GroupNo → Gate) (processes : Proc → Process)
    (received : List Received) (q : Queue)
    → Fits groups gate processes received q → (p : Proc) (row : Row)
    → row_of q.rows p ≡ Some row → (id : Uid) → HasNotEnded gate id.group id.view → 0 < id.count
    → awaits_row row id ≡ awaits (processes p) id

-- the queue names the first message that is ready, by the turns of the groups that the process is a
-- member of
abbrev pub QueueMeansTheRule : Type 0
QueueMeansTheRule =
    (groups : List GroupNo) (gate : GroupNo → Gate) (processes : Proc → Process)
    (received : List Received) (q : Queue)
    → Fits groups gate processes received q
    → (p : Proc) (turns : List (GroupNo × Turn)) (turn : GroupNo → Turn)
    → HasTurns (processes p) turns turn
    → FirstReady groups gate turn (processes p) received (next_key turns q p)

-- a new queue means views of number 0 that no flush has frozen, processes in no group, and no
-- messages
abbrev pub NewFits : Type 0
NewFits =
    (groups : List GroupNo)
    → Fits groups (λ g. open_gate 0)
    (λ p. record { time = no_time; standing = λ g. Outside; delivered = [] }) []
    (record { gates = []; offered = []; rows = []; reached = [] })

-- a process gets a row; one that had none has not begun
abbrev pub AdmitKeepsMeaning : Type 0
AdmitKeepsMeaning =
    (groups : List GroupNo) (gate : GroupNo → Gate) (processes : Proc → Process)
    (received : List Received) (q : Queue)
    → Fits groups gate processes received q → (p : Proc)
    → (row_of q.rows p ≡ None → HasNotBegun (processes p))
    → Fits groups gate processes received (record q { rows = q.rows ++ new_row p ∷ [] })

-- the row of a process that is in no group goes
abbrev pub DismissKeepsMeaning : Type 0
DismissKeepsMeaning =
    (groups : List GroupNo) (gate : GroupNo → Gate) (processes : Proc → Process)
    (received : List Received) (q : Queue)
    → Fits groups gate processes received q → (p : Proc)
    → ((g : GroupNo) → (processes p).standing g ≡ Outside)
    → Fits groups gate processes received (record q { rows = but_row p q.rows })

abbrev pub TellKeepsMeaning : Type 0
TellKeepsMeaning =
    (groups : List GroupNo) (gate : GroupNo → Gate) (processes : Proc → Process)
    (received : List Received) (q : Queue)
    → Fits groups gate processes received q → (p : Proc) (f : ProcessUpdate)
    → IsSome (row_of q.rows p) → FactFits groups f
    → Fits groups gate (set_process processes p (tell_process f (processes p))) received
    (record q { rows = change_row p (told_row f) q.rows })

-- a group has a later view, which no flush has frozen, and what was delivered of its earlier views
-- is forgotten
abbrev pub ViewKeepsMeaning : Type 0
ViewKeepsMeaning =
    (groups : List GroupNo) (gate : GroupNo → Gate) (processes : Proc → Process)
    (received : List Received) (q : Queue)
    → Fits groups gate processes received q → (g : GroupNo) (number : ℕ) → (gate g).number ≤ number
    → Fits groups (set_at group_eq gate g (open_gate number)) processes received
    (queue_viewing g number q)

-- a flush freezes a group
abbrev pub FreezeKeepsMeaning : Type 0
FreezeKeepsMeaning =
    (groups : List GroupNo) (gate : GroupNo → Gate) (processes : Proc → Process)
    (received : List Received) (q : Queue)
    → Fits groups gate processes received q → (g : GroupNo)
    → Fits groups (set_at group_eq gate g (frozen_gate (gate g))) processes received
    (record q { gates = put group_cmp g (frozen_gate (gate_in q.gates g)) q.gates })

-- the Install of a group's next view waits
abbrev pub PendKeepsMeaning : Type 0
PendKeepsMeaning =
    (groups : List GroupNo) (gate : GroupNo → Gate) (processes : Proc → Process)
    (received : List Received) (q : Queue)
    → Fits groups gate processes received q → (g : GroupNo) (cut : CountList)
    → Fits groups (set_at group_eq gate g (pending_gate cut (gate g))) processes received
    (record q { gates = put group_cmp g (pending_gate cut (gate_in q.gates g)) q.gates })

-- the message under a key is let go
abbrev pub ForgetKeepsMeaning : Type 0
ForgetKeepsMeaning =
    (groups : List GroupNo) (gate : GroupNo → Gate) (processes : Proc → Process)
    (received : List Received) (q : Queue)
    → Fits groups gate processes received q → (key : Key)
    → Fits groups gate processes (filter (λ r. not (key_eq r.key key)) received)
    (record q { offered = but_offered key q.offered })

-- a message comes under a key of its own
abbrev pub OfferKeepsMeaning : Type 0
OfferKeepsMeaning =
    (groups : List GroupNo) (gate : GroupNo → Gate) (processes : Proc → Process)
    (received : List Received) (q : Queue)
    → Fits groups gate processes received q → (r : Received)
    → IsSound r.message → message_under received r.key ≡ None
    → Fits groups gate processes (received ++ r ∷ [])
    (record q { offered = q.offered ++ offer_of r ∷ [] })

-- a process delivers a message that is causally ready for it, as each is that is ready
abbrev pub DeliveryKeepsMeaning : Type 0
DeliveryKeepsMeaning =
    (groups : List GroupNo) (gate : GroupNo → Gate) (processes : Proc → Process)
    (received : List Received) (q : Queue)
    → Fits groups gate processes received q → (p : Proc) (key : Key) (m : Message)
    → message_under received key ≡ Some m → is_causally_ready groups gate (processes p) m ≡ true
    → Fits groups gate (set_process processes p (delivering m (processes p))) received
    (queue_delivering p key q)
