-- The fields that have a spelling: numbers in their ranges, and sorted lists.
-- No list is longer than it may be.
use Rattle.std.specs.Prelude.{ℕ, ◌≤◌, List, length, Option, Some, None, IsTrue}
use Rattle.std.specs.List.{AllByRecursion}
use Rattle.cast_types.specs.declared.names.GroupNo.{GroupNo}
use Rattle.cast_types.specs.declared.names.Proc.{Proc}
use Rattle.cast_types.specs.declared.names.Uid.{Uid}
use Rattle.cast_types.specs.declared.clock.Clock.{Clock}
use Rattle.cast_types.specs.Names.{Entry}
use Rattle.cast_types.specs.Counts.{is_counts}
use Rattle.cast_types.specs.Stamps.{is_stamp}
use Rattle.cast_message.specs.declared.message.Body.{Body}
use Rattle.cast_message.specs.declared.message.Body.TheVariants as body
use Rattle.cast_message.specs.declared.message.Message.{Message}
use Rattle.cast_message.specs.Membership.{Membership, is_members}
use Rattle.cast_message.specs.Tail.{Tail, is_tail}
use Rattle.cast_message.specs.Placement.{Placement, is_placement}
use Rattle.cast_message.specs.KeptIds.{Marked, KeptList, is_kept}

-- low ≤ n ≤ high
pub record IsFrom (low high n : ℕ) : Type 0 where
  pub above : low ≤ n
  pub below : n ≤ high

-- a site or a group
abbrev pub IsName : ℕ → Type 0
IsName n = IsFrom 1 65535 n

-- a view, a count, a serial or the number of a request
abbrev pub IsCount : ℕ → Type 0
IsCount n = IsFrom 1 4294967295 n

pub record IsProc (p : Proc) : Type 0 where
  pub site : IsName p.site.0
  pub serial : IsCount p.serial

pub record IsEntry (e : Entry) : Type 0 where
  pub proc : IsProc e.0
  pub count : IsCount e.1

pub record IsUid (u : Uid) : Type 0 where
  pub group : IsName u.group.0
  pub view : IsCount u.view
  pub proc : IsProc u.proc
  pub count : IsCount u.count

pub record AreCounts (c : List Entry) : Type 0 where
  pub sorted : IsTrue (is_counts c)
  pub entries : AllByRecursion IsEntry c

pub record IsClock (e : GroupNo × Clock) : Type 0 where
  pub group : IsName e.0.0
  pub view : IsCount e.1.view
  pub counts : AreCounts e.1.counts

pub record AreTimes (t : List (GroupNo × Clock)) : Type 0 where
  pub sorted : IsTrue (is_stamp t)
  pub clocks : AllByRecursion IsClock t

abbrev pub IsNewHolder : Option Proc → Type 0
IsNewHolder None = Unit {0}
IsNewHolder (Some p) = IsProc p

pub record ArePlaced (s : Placement) : Type 0 where
  pub short : IsTrue (is_placement s)
  pub ids : AllByRecursion IsEntry s.ids
  pub holder : IsNewHolder s.holder

abbrev pub IsBody : Body → Type 0
IsBody (body.Causal payload) = length payload ≤ 16384
IsBody (body.Atomic payload) = length payload ≤ 16384
IsBody (body.Order sequence) = ArePlaced sequence

pub record IsMessage (m : Message) : Type 0 where
  pub id : IsUid m.id
  pub times : AreTimes m.times
  pub body : IsBody m.body

pub record AreMembers (m : Membership) : Type 0 where
  pub sorted : IsTrue (is_members m)
  pub procs : AllByRecursion IsProc m.list

pub record IsTail (t : Tail) : Type 0 where
  pub short : IsTrue (is_tail t)
  pub ids : AllByRecursion IsEntry t.ids

abbrev pub IsMarked : Marked → Type 0
IsMarked e = IsEntry e.0

pub record AreKept (k : KeptList) : Type 0 where
  pub sorted : IsTrue (is_kept k)
  pub ids : AllByRecursion IsMarked k
