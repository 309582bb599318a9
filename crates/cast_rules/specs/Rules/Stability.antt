-- The rules of stability: what Acks and Stables do.
-- A site learns by acknowledgements which messages of its own processes are stable, and tells the
-- other sites.
use Rattle.std.specs.Prelude.{ℕ, Bool, ◌&&◌, nat_lt, nat_le, if◌then◌else◌}
use Rattle.std.specs.List.{fold}
use Rattle.cast_types.specs.declared.names.SiteNo.{SiteNo}
use Rattle.cast_types.specs.declared.names.Uid.{Uid}
use Rattle.cast_types.specs.Names.{site_eq}
use Rattle.cast_types.specs.Sets.{is_among}
use Rattle.cast_message.specs.declared.site.SiteFrame.TheVariants as frame
use Rattle.cast_timer.specs.declared.key.OwedKind.TheVariants as kinds
use Rattle.cast_view.specs.MemberSide.{is_current}
use Rattle.cast_rules.specs.Rules.Keys.{message_key}
use Rattle.cast_rules.specs.Rules.Interface.{Site}

-- each rule is of a message u of the group that stands at h
module _ {S H : Type 0} (d : Site S H) where
  -- an acknowledgement is used that is of a message of the current view of a local process, and
  -- from another site of that view
  abbrev pub is_used_ack : S → H → SiteNo → Uid → Bool
  is_used_ack s h from u =
      is_current (d.group s h) u.view
      && (nat_lt 0 u.count
      && (site_eq u.proc.site (d.here s)
      && is_among site_eq from (d.others s u.group)))

  -- a site has a message, and it is owed to that site no more
  abbrev pub with_ack : S → SiteNo → Uid → S
  with_ack s from u = d.note_ack (d.pay s (message_key kinds.Data u from)) from u

  -- a site is told that the first n messages of a process are stable
  abbrev pub tell_stable : Uid → ℕ → S → SiteNo → S
  tell_stable u n s to = d.send s to (frame.Stable (record u { count = n }))

  -- all other sites are told where more messages are stable than before
  abbrev pub tell_more : Uid → ℕ → S → S
  tell_more u before s =
      if nat_lt before (d.stable_upto s u)
      then fold (tell_stable u (d.stable_upto s u)) s (d.others s u.group)
      else s

  -- an acknowledgement is kept; one of a message that was stable before shows that the site was not
  -- told
  abbrev pub on_ack : S → H → SiteNo → Uid → S
  on_ack s h from u =
      if is_used_ack s h from u
      then (if nat_le u.count (d.stable_upto s u)
      then tell_stable u (d.stable_upto s u) (with_ack s from u) from
      else tell_more u (d.stable_upto s u) (with_ack s from u))
      else s

  -- the process's own site tells that its messages up to one are stable: their acknowledgements are
  -- owed to it no more
  abbrev pub on_stable : S → H → SiteNo → Uid → S
  on_stable s h from u =
      if is_current (d.group s h) u.view && site_eq u.proc.site from
      then d.note_stable (d.pay_upto s (message_key kinds.Ack u u.proc.site)) u
      else s
