-- The rules of messages from other sites: which are well formed and used; Acks; Out for old views.
use Rattle.std.specs.Prelude.{Bool, true, List, Some, None, not, ◌&&◌, ◌==◌, nat_lt, if◌then◌else◌}
use Rattle.std.specs.List.{list_all, list_any}
use Rattle.cast_types.specs.declared.names.SiteNo.{SiteNo}
use Rattle.cast_types.specs.declared.names.Proc.{Proc}
use Rattle.cast_types.specs.declared.names.Uid.{Uid}
use Rattle.cast_types.specs.Names.{site_eq, group_eq, proc_eq}
use Rattle.cast_types.specs.Sets.{is_among}
use Rattle.cast_clock.specs.Times.{clock_of, count_in}
use Rattle.cast_message.specs.declared.message.Body.{Body}
use Rattle.cast_message.specs.declared.message.Message.{Message}
use Rattle.cast_message.specs.Bodies.{new_holder}
use Rattle.cast_message.specs.declared.site.SiteFrame.TheVariants as frame
use Rattle.cast_timer.specs.declared.key.OwedKind.TheVariants as kinds
use Rattle.cast_view.specs.MemberSide.{members_of, has_view}
use Rattle.cast_view.specs.Sites.{is_at}
use Rattle.cast_rules.specs.Rules.Keys.{message_key}
use Rattle.cast_rules.specs.Rules.Interface.{Site}
use Rattle.cast_rules.specs.Rules.Room.{may_take}
use Rattle.cast_rules.specs.Rules.Owing.{owe}

-- a message's own time has its view and its count, from 1 on
abbrev pub counts_itself : Message → Bool
counts_itself m =
    ((clock_of m.times m.id.group).view == m.id.view)
    && (nat_lt 0 m.id.count && (count_in m.times m.id.group m.id.proc == m.id.count))

-- if a message hands the token over, then to one of these
abbrev pub names_member : List Proc → Body → Bool
names_member members b = elim (new_holder b) [ Some p ↦ is_among proc_eq p members | None ↦ true ]

-- each rule is of a message of the group that stands at h
module _ {S H : Type 0} (d : Site S H) where
  -- well formed in a view of these members: all groups of its time are configured, its process is
  -- one of them, and so is the one to which it hands the token over, and its own time counts it
  abbrev pub is_well_formed : S → List Proc → Message → Bool
  is_well_formed s members m =
      list_all (λ c. is_among group_eq c.0 (d.config s).groups) m.times
      && (is_among proc_eq m.id.proc members
      && (names_member members m.body
      && counts_itself m))

  -- a message is used that is well formed, of the group's view here, and from its process's own
  -- site, which is another
  abbrev pub is_used : S → H → SiteNo → Message → Bool
  is_used s h from m =
      site_eq m.id.proc.site from
      && (not (site_eq from (d.here s))
      && ((m.id.view == (d.group s h).number)
      && is_well_formed s (members_of (d.group s h)) m))

  -- the acknowledgement is owed to the message's site, until that has told that the message is
  -- stable
  abbrev pub acknowledge : S → SiteNo → Uid → S
  acknowledge s to u =
      if d.is_stable s u then d.send s to (frame.Ack u) else owe d s (message_key kinds.Ack u to)

  -- it is wanted from the home no more, once it is received
  abbrev pub want_no_more : S → Uid → S
  want_no_more s u = d.pay s (message_key kinds.Want u (d.config s).home)

  -- a message is received once, if there is room for it; what was received is acknowledged again
  abbrev pub use_data : S → SiteNo → Message → S
  use_data s from m =
      if d.is_received s m.id then d.send s from (frame.Ack m.id)
      else if may_take d s m.body
      then want_no_more (acknowledge (d.receive s m) from m.id) m.id
      else s

  -- a message of an older view, from a site that has no member in the one that the group has here
  abbrev pub is_outdated : S → H → SiteNo → Message → Bool
  is_outdated s h from m =
      has_view (d.group s h)
      && (nat_lt m.id.view (d.group s h).number
      && not (list_any (is_at from) (members_of (d.group s h))))

  -- that site is told that it has no part in that one
  abbrev pub on_data : S → H → SiteNo → Message → S
  on_data s h from m =
      if is_used s h from m then use_data s from m
      else if is_outdated s h from m
      then d.send s from (frame.Out (d.name s h) (d.group s h).number)
      else s
