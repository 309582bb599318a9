-- What the queue's answers say of groups, processes and messages, whichever it tells of.
use Rattle.std.specs.Prelude.{◌≡◌, ◌<◌, ◌≤◌, ◌↔◌, ℕ, Bool, true, false, not, IsTrue, List}
use Rattle.std.specs.Prelude.{length, Contains, Option, None, Some, MatchOption, unwrap_or}
use Rattle.std.specs.List.{position}
use Rattle.std.specs.Option.{IsSome}
use Rattle.cast_types.specs.declared.names.GroupNo.{GroupNo}
use Rattle.cast_types.specs.declared.names.Proc.{Proc}
use Rattle.cast_types.specs.declared.names.Key.{Key}
use Rattle.cast_types.specs.declared.names.Uid.{Uid}
use Rattle.cast_types.specs.declared.names.Standing.{Standing}
use Rattle.cast_types.specs.declared.names.Standing.TheVariants.{Outside}
use Rattle.cast_types.specs.Names.{Entry, uid_in}
use Rattle.cast_types.specs.Stamps.{ClockList}
use Rattle.cast_message.specs.declared.message.Received.{Received}
use Rattle.cast_ready.specs.declared.turn.Turn.{Turn}
use Rattle.cast_ready.specs.declared.gate.Gate.{Gate}
use Rattle.cast_ready.specs.declared.offered.Offered.{Offered}
use Rattle.cast_ready.specs.Ready.{Process, is_member, has_delivered, turn_in}
use Rattle.cast_delay.specs.Queue.{Queue, row_of, next_key, HasOneRowEach}
use Rattle.cast_delay.specs.Fits.{Fits, HasNotEnded, FirstReady, IsAwaited}

-- whether a member of its group has not delivered a message, whose view has not ended and whose
-- count is from 1 on
abbrev pub SaysAwaited : Queue → Uid → Bool → Type 0
SaysAwaited q id result =
    (groups : List GroupNo) (gate : GroupNo → Gate) (processes : Proc → Process)
    (received : List Received)
    → Fits groups gate processes received q → HasNotEnded gate id.group id.view → 0 < id.count
    → HasOneRowEach q.rows
    → IsTrue result ↔ IsAwaited processes id

-- the key of the first message in order of receipt that is ready for a process, where the list has
-- its turns in the groups that it is a member of, and none only where there is none
abbrev pub SaysFirstReady : Queue → Proc → List (GroupNo × Turn) → Option Key → Type 0
SaysFirstReady q p turns result =
    (groups : List GroupNo) (gate : GroupNo → Gate) (processes : Proc → Process)
    (received : List Received)
    → Fits groups gate processes received q → (turn : GroupNo → Turn)
    → ((g : GroupNo) → is_member ((processes p).standing g) ≡ true → turn_in turns g ≡ turn g)
    → FirstReady groups gate turn (processes p) received result

-- where it is said that no message may be ready for a process, none is, whatever the turns of
-- groups
abbrev pub SaysMayDeliver : Queue → Proc → Bool → Type 0
SaysMayDeliver q p result =
    result ≡ false → (turns : List (GroupNo × Turn)) → next_key turns q p ≡ None

-- where a process has no candidate, none is ready for it, and where it has one that is no ABCAST,
-- that is the first, whatever the turns of groups
abbrev pub SaysCandidate : Queue → Proc → Option Offered → Type 0
SaysCandidate q p candidate =
    (turns : List (GroupNo × Turn))
    → MatchOption candidate (next_key turns q p ≡ None)
    (λ o. o.atomic ≡ false → next_key turns q p ≡ Some o.key)

-- whether a process that has a row has delivered a message, whose view has not ended
abbrev pub SaysDelivered : Queue → Proc → Uid → Bool → Type 0
SaysDelivered q p id result =
    (groups : List GroupNo) (gate : GroupNo → Gate) (processes : Proc → Process)
    (received : List Received)
    → Fits groups gate processes received q → IsSome (row_of q.rows p)
    → HasNotEnded gate id.group id.view
    → result ≡ has_delivered (processes p) id

-- how many of these ids, of a view that has not ended, a process that has a row has delivered
-- before the first that it has not
abbrev pub SaysPassed : Queue → Proc → GroupNo → ℕ → List Entry → ℕ → Type 0
SaysPassed q p group view ids result =
    (groups : List GroupNo) (gate : GroupNo → Gate) (processes : Proc → Process)
    (received : List Received)
    → Fits groups gate processes received q → IsSome (row_of q.rows p) → HasNotEnded gate group view
    → result
    ≡ unwrap_or (position (λ e. not (has_delivered (processes p) (uid_in group view e))) ids)
    (length ids)

-- the counts of a view that has not ended say how far processes came in it: for each message of it
-- that some process has delivered there is one as great, and each is of a message that one has
-- delivered
pub record SaysReached (q : Queue) (group : GroupNo) (view : ℕ) (counts : List Entry) : Type 0 where
  pub most : (groups : List GroupNo) (gate : GroupNo → Gate) (processes : Proc → Process)
      (received : List Received)
      → Fits groups gate processes received q → HasNotEnded gate group view
      → (p : Proc) (e : Entry) → 0 < e.1 → has_delivered (processes p) (uid_in group view e) ≡ true
      → (n : ℕ) × Contains counts (e.0, n) × (e.1 ≤ n)
  pub each : (groups : List GroupNo) (gate : GroupNo → Gate) (processes : Proc → Process)
      (received : List Received)
      → Fits groups gate processes received q
      → (e : Entry) → Contains counts e
      → (p : Proc) × (has_delivered (processes p) (uid_in group view e) ≡ true)

-- the time of a process, and none only of one that is in no group
abbrev pub SaysTime : {X : Type 0} → Queue → Proc → (X → ClockList) → Option X → Type 0
SaysTime q p time result =
    (groups : List GroupNo) (gate : GroupNo → Gate) (processes : Proc → Process)
    (received : List Received)
    → Fits groups gate processes received q
    → MatchOption result ((g : GroupNo) → (processes p).standing g ≡ Outside)
    (λ t. time t ≡ (processes p).time)

-- what a process is in a group
abbrev pub SaysStanding : Queue → Proc → GroupNo → Standing → Type 0
SaysStanding q p group result =
    (groups : List GroupNo) (gate : GroupNo → Gate) (processes : Proc → Process)
    (received : List Received)
    → Fits groups gate processes received q → result ≡ (processes p).standing group
