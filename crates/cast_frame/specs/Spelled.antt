-- The frames that have a spelling: numbers in their ranges, and sorted lists.
-- No list is longer than it may be.
use Rattle.std.specs.Prelude.{ℕ, ◌≤◌, List, length}
use Rattle.cast_types.specs.declared.names.DomainNo.{DomainNo}
use Rattle.cast_types.specs.declared.names.SiteNo.{SiteNo}
use Rattle.cast_types.specs.declared.names.GroupNo.{GroupNo}
use Rattle.cast_types.specs.Names.{Entry}
use Rattle.cast_message.specs.declared.site.SiteFrame.{SiteFrame}
use Rattle.cast_message.specs.declared.site.SiteFrame.TheVariants.{Data, Ack, Stable, Ask, Asked}
use Rattle.cast_message.specs.declared.site.SiteFrame.TheVariants.{Prepare, Flushed, Want, Forward}
use Rattle.cast_message.specs.declared.site.SiteFrame.TheVariants.{Install, Installed, Out}
use Rattle.cast_message.specs.Membership.{Membership}
use Rattle.cast_message.specs.Tail.{Tail}
use Rattle.cast_message.specs.KeptIds.{KeptList}
use Rattle.cast_field.specs.Spelled.{IsFrom, IsName, IsCount, IsProc, IsUid, AreCounts}
use Rattle.cast_field.specs.Spelled.{IsMessage, AreMembers, IsTail, AreKept}

pub record IsFlushed (g : GroupNo) (v : ℕ) (c : List Entry) (t : Tail) (k : KeptList) : Type 0 where
  pub group : IsName g.0
  pub view : IsCount v
  pub counts : AreCounts c
  pub tail : IsTail t
  -- fewer than a tail may have elsewhere
  pub few : length t.ids ≤ 512
  pub kept : AreKept k

pub record IsInstall (g : GroupNo) (v : ℕ) (m : Membership) (r : ℕ) (c : List Entry)
    (t : Tail) : Type 0 where
  pub group : IsName g.0
  pub view : IsCount v
  pub members : AreMembers m
  pub request : IsFrom 0 4294967295 r
  pub cut : AreCounts c
  pub tail : IsTail t

abbrev pub IsFrame : SiteFrame → Type 0
IsFrame (Data m) = IsMessage m
IsFrame (Ack u) = IsUid u
IsFrame (Stable u) = IsUid u
IsFrame (Ask g number change p) = IsName g.0 × IsCount number × IsProc p
IsFrame (Asked g number full) = IsName g.0 × IsCount number
IsFrame (Prepare g view) = IsName g.0 × IsCount view
IsFrame (Flushed g view counts tail kept) = IsFlushed g view counts tail kept
IsFrame (Want u) = IsUid u
IsFrame (Forward m) = IsMessage m
IsFrame (Install g view members request cut tail) = IsInstall g view members request cut tail
IsFrame (Installed g view) = IsName g.0 × IsCount view
IsFrame (Out g view) = IsName g.0 × IsCount view

-- a frame of this domain from this site
pub record IsSpelled (d : DomainNo) (s : SiteNo) (f : SiteFrame) : Type 0 where
  pub domain : IsFrom 1 255 d.0
  pub site : IsName s.0
  pub frame : IsFrame f
