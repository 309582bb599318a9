-- What was looked at of the messages for each process, and which of these wait for which others.
use Rattle.std.specs.Prelude.{◌≡◌, ◌⊎◌, ℕ, ◌+◌, ◌<◌, ◌≤◌, Bool, true, false}
use Rattle.std.specs.Prelude.{not, ◌==◌, if◌then◌else◌, List, length, take}
use Rattle.std.specs.Prelude.{filter, Contains, Option, Some, None}
use Rattle.std.specs.List.{find}
use Rattle.std.specs.Option.{option_and_then}
use Rattle.std.specs.Ordering.{nat_cmp}
use Rattle.std.specs.BTreeSet.{contains}
use Rattle.cast_types.specs.declared.names.GroupNo.{GroupNo}
use Rattle.cast_types.specs.declared.names.Proc.{Proc}
use Rattle.cast_types.specs.declared.names.Key.{Key}
use Rattle.cast_types.specs.declared.names.Uid.{Uid}
use Rattle.cast_types.specs.Names.{proc_eq}
use Rattle.cast_index.specs.Index.{has}
use Rattle.cast_index.specs.Rises.{rises}
use Rattle.cast_ready.specs.declared.gate.Gate.{Gate}
use Rattle.cast_ready.specs.declared.row.Row.{Row}
use Rattle.cast_ready.specs.declared.offered.Offered.{Offered}
use Rattle.cast_delay.specs.declared.looked.Looked.{Looked}
use Rattle.cast_ready.specs.declared.row.ProcessUpdate.{ProcessUpdate}
use Rattle.cast_ready.specs.declared.row.ProcessUpdate.TheVariants as fact
use Rattle.cast_delay.specs.declared.floor.Floor.{Floor}
use Rattle.cast_delay.specs.Settled.{AreSettled}
use Rattle.cast_delay.specs.Floors.{IsFloor}
use Rattle.cast_ready.specs.Rows.{done_in, awaits_now, holds_back}
use Rattle.cast_delay.specs.Queue.{row_of, offered_under}
use Rattle.cast_delay.specs.Offers.{key_of}

-- whether a key is awake
abbrev pub is_awake : Looked → ℕ → Bool
is_awake l k = contains nat_cmp l.awake k

-- the message is filed under an id that holds it back
abbrev pub IsHeld : List (GroupNo × Gate) → Row → Looked → Offered → Type 0
IsHeld gates row l o = (u : Uid) × (has l.filed u o.key ≡ true) × (holds_back gates row o u ≡ true)

-- of a message it is known whether it can be ready for the row: it is awake, or it is not awaited,
-- or another holds it back
abbrev pub IsKnown : List (GroupNo × Gate) → Row → Looked → Offered → Type 0
IsKnown gates row l o =
    (is_awake l o.key.0 ≡ true) ⊎ ((awaits_now gates row o.id ≡ false) ⊎ IsHeld gates row l o)

-- what is awake or filed was looked at
pub record IsWithin (l : Looked) : Type 0 where
  pub awake : (k : ℕ) → is_awake l k ≡ true → k < l.below
  pub filed : (u : Uid) (k : Key) → has l.filed u k ≡ true → k.0 < l.below

-- and the messages that were looked at are known
pub record AreKnown (gates : List (GroupNo × Gate)) (row : Row) (offered : List Offered)
    (l : Looked) : Type 0 where
  pub within : IsWithin l
  pub each : (o : Offered) → Contains offered o → o.key.0 < l.below → IsKnown gates row l o

-- keys rise, and the messages that were looked at are known
pub record IsLookedAt (gates : List (GroupNo × Gate)) (row : Option Row) (offered : List Offered)
    (l : Looked) : Type 0 where
  pub rising : rises key_of offered ≡ true
  pub within : IsWithin l
  pub known : (r : Row) → row ≡ Some r → AreKnown gates r offered l

-- what is kept of a process
abbrev pub looked_of : List Looked → Proc → Option Looked
looked_of ls p = find (λ l. proc_eq l.process p) ls

-- so for each process of which something is kept
abbrev pub AreLookedAt : List (GroupNo × Gate) → List Row → List Offered → List Looked → Type 0
AreLookedAt gates rows offered ls =
    (p : Proc) (l : Looked) → looked_of ls p ≡ Some l → IsLookedAt gates (row_of rows p) offered l

-- what was awake is, what was filed is, and no other key than one was added
pub record Adds (key : Key) (old new : Looked) : Type 0 where
  pub process : new.process ≡ old.process
  pub below : new.below ≡ old.below
  pub awake : (k : ℕ) → is_awake old k ≡ true → is_awake new k ≡ true
  pub filed : (u : Uid) (k : Key) → has old.filed u k ≡ true → has new.filed u k ≡ true
  pub awake_only : (k : ℕ) → is_awake new k ≡ true → (is_awake old k ≡ true) ⊎ (k ≡ key.0)
  pub filed_only : (u : Uid) (k : Key) → has new.filed u k ≡ true
      → (has old.filed u k ≡ true) ⊎ (k.0 ≡ key.0)

-- known, or filed under an id that was just delivered
abbrev pub IsWaking : List (GroupNo × Gate) → Row → Uid → Looked → Offered → Type 0
IsWaking gates row id l o = IsKnown gates row l o ⊎ (has l.filed id o.key ≡ true)

-- a message that the row has just taken, under a key: what it held back is filed under its id
pub record IsToWake (gates : List (GroupNo × Gate)) (row : Row) (offered : List Offered) (id : Uid)
    (key : Key) (l : Looked) : Type 0 where
  pub within : IsWithin l
  pub waking : (o : Offered) → Contains offered o → o.key.0 < l.below → IsWaking gates row id l o
  pub taken : (o : Offered) → Contains offered o → o.key.0 ≡ key.0
      → awaits_now gates row o.id ≡ false

-- so of what is kept of one process; of each other one it is known what was looked at
pub record AreToWake (gates : List (GroupNo × Gate)) (rows : List Row) (offered : List Offered)
    (p : Proc) (id : Uid) (key : Key) (ls : List Looked) : Type 0 where
  pub own : (l : Looked) → looked_of ls p ≡ Some l → (rises key_of offered ≡ true)
      × IsWithin l
      × ((row : Row) → row_of rows p ≡ Some row → IsToWake gates row offered id key l)
  pub others : (q : Proc) (l : Looked) → proc_eq p q ≡ false → looked_of ls q ≡ Some l
      → IsLookedAt gates (row_of rows q) offered l

-- the first n messages are not awaited, or were looked at
abbrev pub AreSeen : List (GroupNo × Gate) → List Row → List Offered → List Looked → Proc
    → ℕ → Type 0
AreSeen gates rows offered ls p n =
    (row : Row) → row_of rows p ≡ Some row → (o : Offered) → Contains (take n offered) o
    → (awaits_now gates row o.id ≡ false)
    ⊎ ((l : Looked) × (looked_of ls p ≡ Some l) × (o.key.0 < l.below))

-- what is kept of processes once one has taken in a fact: a standing may make it wait for any
-- message
abbrev pub waits_despite : ProcessUpdate → Proc → List Looked → List Looked
waits_despite (fact.Standing g standing) p ls = filter (λ l. not (proc_eq l.process p)) ls
waits_despite (fact.Time time) p ls = ls

-- the id of the message under a key, where it is the next one of its source for a process
abbrev pub next_under : List Row → List Offered → Proc → Key → Option Uid
next_under rows offered p key =
    option_and_then (λ row. option_and_then (λ o. if done_in row o.id.group o.id.view o.id.proc + 1
    == o.id.count then Some o.id else None) (offered_under offered key)) (row_of rows p)

-- each of the first n messages is one of those that are settled, or was looked at
pub record IsUnseen (offered : List Offered) (settled : ℕ) (l : Looked) (n : ℕ) : Type 0 where
  pub within : n ≤ length offered
  pub each : (o : Offered) → Contains (take n offered) o
      → Contains (take settled offered) o ⊎ (o.key.0 < l.below)

-- and by what is kept of a process, where something is
pub record IsUnseenBy (offered : List Offered) (settled : ℕ) (l : Option Looked)
    (n : ℕ) : Type 0 where
  pub within : n ≤ length offered
  pub each : (o : Offered) → Contains (take n offered) o
      → Contains (take settled offered) o ⊎ ((m : Looked) × (l ≡ Some m) × (o.key.0 < m.below))

-- what need not be looked at: the first n messages are settled, of those that were looked at what
-- is kept is known, and the floor lies under the rows
pub record MayBePassed (gates : List (GroupNo × Gate)) (rows : List Row) (offered : List Offered)
    (n : ℕ) (ls : List Looked) (floor : Floor) : Type 0 where
  pub settled : AreSettled gates rows offered n
  pub looked : AreLookedAt gates rows offered ls
  pub lies : IsFloor rows offered floor
