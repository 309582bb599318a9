-- The rules of a flush at a site of the view.
-- It tells the home what it has, wants what it lacks of the view that ends, and completes the
-- Install of the next one.
use Rattle.std.specs.Prelude.{ℕ, ◌+◌, Bool, false, ◌&&◌, ◌==◌, if◌then◌else◌, Some, None}
use Rattle.std.specs.List.{fold}
use Rattle.cast_types.specs.declared.names.SiteNo.{SiteNo}
use Rattle.cast_types.specs.declared.names.GroupNo.{GroupNo}
use Rattle.cast_types.specs.Names.{Entry, uid_in}
use Rattle.cast_message.specs.declared.message.Message.{Message}
use Rattle.cast_message.specs.declared.site.SiteFrame.{SiteFrame}
use Rattle.cast_message.specs.declared.site.SiteFrame.TheVariants as frame
use Rattle.cast_timer.specs.declared.key.OwedKey.{OwedKey}
use Rattle.cast_timer.specs.declared.key.OwedKind.TheVariants.{Want}
use Rattle.cast_flush.specs.declared.report.Report.{Report}
use Rattle.cast_view.specs.declared.member.Pending.{Pending}
use Rattle.cast_view.specs.MemberSide.{members_of, answers_prepare, is_pending}
use Rattle.cast_rules.specs.Rules.Keys.{message_key}
use Rattle.cast_rules.specs.Rules.Interface.{Site, Resting}
use Rattle.cast_rules.specs.Rules.Owing.{owe}
use Rattle.cast_rules.specs.Rules.Asking.{is_from_home}
use Rattle.cast_rules.specs.Rules.Data.{is_well_formed, want_no_more}
use Rattle.cast_rules.specs.Rules.Views.{install}
use Rattle.cast_rules.specs.Rules.Release.{let_go}

abbrev pub flushed_frame : GroupNo → ℕ → Report → SiteFrame
flushed_frame g view report = frame.Flushed g view report.counts report.tail report.kept

-- each rule is of the group that stands at h
module _ {S H : Type 0} (d : Site S H) where
  -- Prepare from the home freezes the view, and is answered each time until an Install waits
  abbrev pub on_prepare : S → H → SiteNo → ℕ → S
  on_prepare s h from view =
      if is_from_home d s from && answers_prepare (d.group s h) view
      then d.send (d.freeze s h) from (flushed_frame (d.name s h) view (d.report s h))
      else s

  -- a message of the view is wanted from the home
  abbrev pub own_want_key : S → H → Entry → OwedKey
  own_want_key s h e =
      message_key Want (uid_in (d.name s h) (d.group s h).number e) (d.config s).home

  -- an Install waits, and a message is wanted, of the view that ends and well formed in it
  abbrev pub is_wanted_here : S → H → Message → Bool
  is_wanted_here s h m =
      is_pending (d.group s h)
      && (d.is_owed s (message_key Want m.id (d.config s).home)
      && ((m.id.view == (d.group s h).number) && is_well_formed d s (members_of (d.group s h)) m))

  -- one that the home forwards is received, for which no room is needed
  abbrev pub on_wanted : S → H → SiteNo → Message → S
  on_wanted s h from m =
      if is_from_home d s from && is_wanted_here s h m
      then want_no_more d (d.receive s m) m.id
      else s

  -- the Install that waits is completed
  abbrev pub complete : S → H → Pending → S
  complete s h p =
      install d false s h (d.config s).home ((d.group s h).number + 1) p.members p.request p.cut

  abbrev pub want_own : H → S → Entry → S
  want_own h s e = owe d s (own_want_key s h e)

module _ {S H : Type 0} (d : Site S H) (q : Resting S H) where
  -- once each member here has delivered its cut, and what is free then is let go: a program that is
  -- told of it may be too slow, and its process leaves other groups too. Until then the site wants
  -- what is missing
  abbrev pub complete_or_want : S → H → Pending → S
  complete_or_want s h p =
      if q.has_cut s h p.cut then let_go d q (complete d s h p)
      else fold (want_own d h) s (q.missing s h p.cut)

  abbrev pub go_on : S → H → S
  go_on s h = elim (d.group s h).pending [ Some p ↦ complete_or_want s h p | None ↦ s ]

  -- for each group
  abbrev pub go_on_all : S → S
  go_on_all s = fold go_on s (d.places s)
