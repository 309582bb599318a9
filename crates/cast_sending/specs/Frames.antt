-- A frame of a domain for a site, and what it tells the site of messages.
use Rattle.std.specs.Prelude.{◌≡◌, ◌≤◌, ◌==◌, ◌&&◌, Bool, false, not, nat_le, Option, Some, None}
use Rattle.std.specs.Prelude.{is_some, IsSomeAnd}
use Rattle.cast_types.specs.Names.{group_eq, proc_eq, site_eq}
use Rattle.cast_types.specs.declared.names.DomainNo.{DomainNo}
use Rattle.cast_types.specs.declared.names.SiteNo.{SiteNo}
use Rattle.cast_types.specs.declared.names.Uid.{Uid}
use Rattle.cast_message.specs.declared.site.SiteFrame.{SiteFrame}
use Rattle.cast_message.specs.declared.site.SiteFrame.TheVariants.{Stable}

abbrev pub Frame : Type 0
Frame = DomainNo × SiteNo × SiteFrame

-- a message of the same view and process, whose count is no more
pub record IsUpto (message last : Uid) : Type 0 where
  pub group : message.group ≡ last.group
  pub view : message.view ≡ last.view
  pub proc : message.proc ≡ last.proc
  pub count : message.count ≤ last.count

-- the last message of which a Stable tells
abbrev pub last_told : SiteFrame → Option Uid
last_told (Stable upto) = Some upto
last_told _ = None

abbrev pub is_stable : Frame → Bool
is_stable frame = is_some (last_told frame.2)

abbrev pub is_other : Frame → Bool
is_other frame = not (is_stable frame)

-- a Stable tells that all sites of the view have the messages of the process up to its count: a
-- site is told so of a message of a domain
pub record Tells (frame : Frame) (domain : DomainNo) (site : SiteNo) (message : Uid) : Type 0 where
  pub domain_is : frame.0 ≡ domain
  pub site_is : frame.1 ≡ site
  pub counts : IsSomeAnd (last_told frame.2) (IsUpto message)

-- all that one frame tells, the other tells too
abbrev pub Covers : Frame → Frame → Type 0
Covers new old =
    (domain : DomainNo) (site : SiteNo) (message : Uid)
    → Tells old domain site message → Tells new domain site message

-- what the names and the counts say of that
abbrev pub reaches : Option Uid → Option Uid → Bool
reaches (Some new) (Some old) =
    group_eq old.group new.group
    && ((old.view == new.view)
    && (proc_eq old.proc new.proc
    && nat_le old.count new.count))
reaches new old = false

abbrev pub covers : Frame → Frame → Bool
covers new old =
    (old.0.0 == new.0.0)
    && (site_eq old.1 new.1
    && reaches (last_told new.2) (last_told old.2))
