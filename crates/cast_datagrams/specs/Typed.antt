-- What the types of a frame say of it: numbers that fit, and lists as their own types promise.
-- A number may be 0 here; a frame that has a spelling has each from 1 on.
use Rattle.std.specs.Prelude.{ℕ, ◌<◌, ◌≤◌, ◌^◌, List, length, Option, Some, None, IsTrue}
use Rattle.std.specs.List.{AllByRecursion}
use Rattle.cast_types.specs.declared.names.DomainNo.{DomainNo}
use Rattle.cast_types.specs.declared.names.SiteNo.{SiteNo}
use Rattle.cast_types.specs.declared.names.GroupNo.{GroupNo}
use Rattle.cast_types.specs.declared.names.Proc.{Proc}
use Rattle.cast_types.specs.declared.names.Uid.{Uid}
use Rattle.cast_types.specs.declared.clock.Clock.{Clock}
use Rattle.cast_types.specs.Names.{Entry}
use Rattle.cast_types.specs.Counts.{is_counts}
use Rattle.cast_types.specs.Stamps.{is_stamp}
use Rattle.cast_message.specs.declared.message.Body.{Body}
use Rattle.cast_message.specs.declared.message.Body.TheVariants as body
use Rattle.cast_message.specs.declared.message.Message.{Message}
use Rattle.cast_message.specs.declared.site.SiteFrame.{SiteFrame}
use Rattle.cast_message.specs.declared.site.SiteFrame.TheVariants.{Data, Ack, Stable, Ask, Asked}
use Rattle.cast_message.specs.declared.site.SiteFrame.TheVariants.{Prepare, Flushed, Want, Forward}
use Rattle.cast_message.specs.declared.site.SiteFrame.TheVariants.{Install, Installed, Out}
use Rattle.cast_message.specs.Membership.{Membership, is_members}
use Rattle.cast_message.specs.Tail.{Tail, is_tail}
use Rattle.cast_message.specs.Placement.{Placement, is_placement}
use Rattle.cast_message.specs.KeptIds.{Marked, KeptList, is_kept}

-- the number of a domain
abbrev pub IsByte : ℕ → Type 0
IsByte n = n < 2 ^ 8

-- the number of a site or a group
abbrev pub IsShort : ℕ → Type 0
IsShort n = n < 2 ^ 16

-- a view, a count, a serial, a place or the number of a request
abbrev pub IsWord : ℕ → Type 0
IsWord n = n < 2 ^ 32

pub record FitsProc (p : Proc) : Type 0 where
  pub site : IsShort p.site.0
  pub serial : IsWord p.serial

pub record FitsEntry (e : Entry) : Type 0 where
  pub proc : FitsProc e.0
  pub count : IsWord e.1

pub record FitsUid (u : Uid) : Type 0 where
  pub group : IsShort u.group.0
  pub view : IsWord u.view
  pub proc : FitsProc u.proc
  pub count : IsWord u.count

pub record FitCounts (c : List Entry) : Type 0 where
  pub sorted : IsTrue (is_counts c)
  pub entries : AllByRecursion FitsEntry c

pub record FitsClock (e : GroupNo × Clock) : Type 0 where
  pub group : IsShort e.0.0
  pub view : IsWord e.1.view
  pub counts : FitCounts e.1.counts

pub record FitTimes (t : List (GroupNo × Clock)) : Type 0 where
  pub sorted : IsTrue (is_stamp t)
  pub clocks : AllByRecursion FitsClock t

abbrev pub FitsNewHolder : Option Proc → Type 0
FitsNewHolder None = Unit {0}
FitsNewHolder (Some p) = FitsProc p

pub record FitPlaces (s : Placement) : Type 0 where
  pub short : IsTrue (is_placement s)
  pub ids : AllByRecursion FitsEntry s.ids
  pub holder : FitsNewHolder s.holder

abbrev pub FitsBody : Body → Type 0
FitsBody (body.Causal payload) = length payload ≤ 16384
FitsBody (body.Atomic payload) = length payload ≤ 16384
FitsBody (body.Order sequence) = FitPlaces sequence

pub record FitsMessage (m : Message) : Type 0 where
  pub id : FitsUid m.id
  pub times : FitTimes m.times
  pub body : FitsBody m.body

pub record FitMembers (m : Membership) : Type 0 where
  pub sorted : IsTrue (is_members m)
  pub procs : AllByRecursion FitsProc m.list

pub record FitsTail (t : Tail) : Type 0 where
  pub short : IsTrue (is_tail t)
  pub ids : AllByRecursion FitsEntry t.ids

abbrev pub FitsMarked : Marked → Type 0
FitsMarked e = FitsEntry e.0

pub record FitKept (k : KeptList) : Type 0 where
  pub sorted : IsTrue (is_kept k)
  pub ids : AllByRecursion FitsMarked k

pub record FitsFlushed (g : GroupNo) (v : ℕ) (c : List Entry) (t : Tail) (k : KeptList)
    : Type 0 where
  pub group : IsShort g.0
  pub view : IsWord v
  pub counts : FitCounts c
  pub tail : FitsTail t
  pub kept : FitKept k

pub record FitsInstall (g : GroupNo) (v : ℕ) (m : Membership) (r : ℕ) (c : List Entry)
    (t : Tail) : Type 0 where
  pub group : IsShort g.0
  pub view : IsWord v
  pub members : FitMembers m
  pub request : IsWord r
  pub cut : FitCounts c
  pub tail : FitsTail t

-- a frame is one of its type
abbrev pub FitsType : SiteFrame → Type 0
FitsType (Data m) = FitsMessage m
FitsType (Ack u) = FitsUid u
FitsType (Stable u) = FitsUid u
FitsType (Ask g number change p) = IsShort g.0 × IsWord number × FitsProc p
FitsType (Asked g number full) = IsShort g.0 × IsWord number
FitsType (Prepare g view) = IsShort g.0 × IsWord view
FitsType (Flushed g view counts tail kept) = FitsFlushed g view counts tail kept
FitsType (Want u) = FitsUid u
FitsType (Forward m) = FitsMessage m
FitsType (Install g view members request cut tail) = FitsInstall g view members request cut tail
FitsType (Installed g view) = IsShort g.0 × IsWord view
FitsType (Out g view) = IsShort g.0 × IsWord view

-- and so is one that is sent, with the numbers of its domain and of the site that it is for
pub record FitsSent (f : DomainNo × SiteNo × SiteFrame) : Type 0 where
  pub domain : IsByte f.0.0
  pub to : IsShort f.1.0
  pub frame : FitsType f.2
