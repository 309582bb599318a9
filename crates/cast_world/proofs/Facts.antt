-- What of every network run causal delivery rests on, said of the acts of one process.
use Rattle.std.specs.FinMap.Entries.{is_sorted}
use Rattle.std.specs.Prelude.{◌+◌, ◌++◌, ◌<◌, Contains, IsTrue, List, true, ℕ, ◌∷◌, ◌≡◌, ◌≤◌, ◌⊎◌}
use Rattle.cast_clock.specs.Times.{clock_of, count_in, view_of}
use Rattle.cast_ready.specs.Ready.{Process}
use Rattle.cast_rules.specs.Acts.{Act}
use Rattle.cast_rules.specs.Acts.Act.{Delivered, Entered, Left, Sent}
use Rattle.cast_message.specs.declared.message.Message.{Message}
use Rattle.cast_types.specs.Counts.{CountList, is_within}
use Rattle.cast_types.specs.Names.{Entry, group_cmp, uid_in, proc_cmp}
use Rattle.cast_types.specs.Stamps.{ClockList}
use Rattle.cast_types.specs.declared.names.GroupNo.{GroupNo}
use Rattle.cast_types.specs.declared.names.Proc.{Proc}
use Rattle.cast_types.specs.declared.names.Standing.{Standing}
use Rattle.cast_types.specs.declared.names.Standing.TheVariants.{Joining, Member}
use Rattle.cast_types.specs.declared.names.Uid.{Uid}
use Rattle.cast_world.specs.HappenedBefore.{acts_of}
use Rattle.cast_world.specs.Laws.{Below, Covers}
use Rattle.cast_world.specs.Network.{Network}
use Rattle.cast_world.specs.Properties.{IsIn}

abbrev pub HasDone : List Act → Message → Type 0
HasDone acts m = Contains acts (Sent m) ⊎ Contains acts (Delivered m)

abbrev pub HasDelivered : List Act → Uid → Type 0
HasDelivered acts u = (m : Message) × (m.id ≡ u) × Contains acts (Delivered m)

-- its groups rise, and the processes of each of its clocks
abbrev pub IsSorted : ClockList → Type 0
IsSorted t = (is_sorted group_cmp t ≡ true) × ((g : GroupNo) → is_sorted proc_cmp (clock_of t g).counts ≡ true)

-- What the laws need of the rules, whole: each of these says of all that it is so, and the laws fall where one says it of less

-- in which groups a process looks for messages that it lacks, before it delivers one: in each of which it is a member
abbrev pub LooksIn : Message → GroupNo → Type 0
LooksIn m g = Unit {0}

-- in which groups a joining process heeds the view that it had heard of, before it delivers a message: in each that it joins
abbrev pub HeedsIn : Message → GroupNo → Type 0
HeedsIn m g = Unit {0}

-- of which groups a stamp tells what its sender knew: of each
abbrev pub TellsOf : Message → GroupNo → Type 0
TellsOf z g = Unit {0}

-- which messages within a cut are delivered before the next view is entered: each
abbrev pub IsAwaited : Entry → Type 0
IsAwaited e = Unit {0}

-- which groups deliver nothing once a flush has frozen them, until an Install waits: each
abbrev pub StopsIn : GroupNo → Type 0
StopsIn g = Unit {0}

-- which ABCASTs are delivered in their turn alone: each
abbrev pub WaitsForTurn : Message → Type 0
WaitsForTurn m = Unit {0}

-- which messages that a site reported are within the cut: each
abbrev pub IsCounted : Entry → Type 0
IsCounted e = Unit {0}

-- which messages are new to whoever delivers them: each
abbrev pub ComesNew : Message → Type 0
ComesNew m = Unit {0}

-- which messages are sent and delivered in the view that they name alone: each
abbrev pub KeepsToView : Message → Type 0
KeepsToView m = Unit {0}

-- a message that a process sent, after these acts: it has the process's name, counts itself, and covers all done before
pub record SentWell (me : Proc) (a : List Act) (z : Message) : Type 0 where
  pub own : z.id.proc ≡ me
  pub counted : 1 ≤ z.id.count
  pub itself : Covers z.times z.id
  pub sorted : IsSorted z.times
  pub rises : (y : Message) → HasDone a y → (u : Uid) → TellsOf z u.group → Covers y.times u → Covers z.times u
  pub strictly : (y : Message) → HasDone a y → Covers y.times z.id → ⊥

-- a message that a process delivered, after these acts: of its views it has delivered what the message's time covers
abbrev pub DeliveredWell : List Act → Message → Type 0
DeliveredWell a m = (u : Uid) → IsIn a u.group u.view → Covers m.times u → (u ≡ m.id → ⊥) → 1 ≤ u.count → HasDelivered a u

-- a view that a process enters, after these acts, is above all that it did; it is the next one of a member, who has delivered the cut
pub record EnteredWell (a : List Act) (g : GroupNo) (n : ℕ) (cut : CountList) : Type 0 where
  pub above : (m : Message) → HasDone a m → view_of m.times g < n
  pub next : (view : ℕ) → IsIn a g view → n ≡ view + 1
  pub cuts : (view : ℕ) (e : Entry) → IsAwaited e → IsIn a g view → 1 ≤ e.1 → IsTrue (is_within cut e) → HasDelivered a (uid_in g view e)

abbrev pub ActWell : Proc → List Act → Act → Type 0
ActWell me a (Sent m) = SentWell me a m
ActWell me a (Delivered m) = DeliveredWell a m
ActWell me a (Entered g n cut) = EnteredWell a g n cut
ActWell me a (Left g) = record {}

-- of each act and the acts before it
abbrev pub Each : (List Act → Act → Type 0) → List Act → Type 0
Each P acts = (a c : List Act) (x : Act) → acts ≡ a ++ x ∷ c → P a x

pub record Facts (w : Network) : Type 0 where
  pub each : (p : Proc) → Each (ActWell p) (acts_of w p)
  pub was_sent : (p : Proc) (m : Message) → Contains (acts_of w p) (Delivered m) → Contains (acts_of w m.id.proc) (Sent m)

-- a process and its acts: its time covers what it did, its list has what it delivered, it is a member of the views it is in, and
-- while it joins a group its time has the view that it had heard of
pub record FitsParts (me : Proc) (time : ClockList) (standing : GroupNo → Standing) (delivered : List Uid) (acts : List Act) : Type 0 where
  pub each : Each (ActWell me) acts
  pub covered : (m : Message) → HasDone acts m → Below m.times time
  pub listed : (u : Uid) → Contains delivered u → HasDelivered acts u
  pub member : (g : GroupNo) (view : ℕ) → IsIn acts g view → (standing g ≡ Member) × (view_of time g ≡ view)
  pub heard : (g : GroupNo) (request heard : ℕ) → standing g ≡ Joining request heard → view_of time g ≡ heard

-- of the parts alone, so that a process may change in others
abbrev pub Fits : Proc → Process → List Act → Type 0
Fits me p acts = FitsParts me p.time p.standing p.delivered acts

-- a message is allowed to a process: of its groups it has delivered what the message's time covers
pub record IsAllowed (p : Process) (m : Message) : Type 0 where
  pub view : (g : GroupNo) → p.standing g ≡ Member → view_of m.times g ≤ view_of p.time g
  pub past : (u : Uid) → LooksIn m u.group → p.standing u.group ≡ Member → u.view ≡ view_of m.times u.group →
      u.view ≡ view_of p.time u.group →
      u.count ≤ count_in m.times u.group u.proc → 1 ≤ u.count → (u ≡ m.id → ⊥) → Contains p.delivered u
  pub heard : (g : GroupNo) (request heard : ℕ) → HeedsIn m g → p.standing g ≡ Joining request heard → view_of m.times g ≤ heard
