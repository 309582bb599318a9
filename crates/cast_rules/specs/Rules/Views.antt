-- The rules of views: a site installs what its home decided, and tells the home.
-- And it is told where it has no part in a view any more.
use Rattle.std.specs.Prelude.{ℕ, Bool, true, false, if◌then◌else◌, [], None}
use Rattle.std.specs.List.{fold}
use Rattle.cast_types.specs.declared.names.SiteNo.{SiteNo}
use Rattle.cast_types.specs.declared.names.GroupNo.{GroupNo}
use Rattle.cast_types.specs.Counts.{CountList}
use Rattle.cast_message.specs.declared.site.SiteFrame.TheVariants as frame
use Rattle.cast_message.specs.declared.client.Push.TheVariants as push
use Rattle.cast_message.specs.Membership.{Membership}
use Rattle.cast_message.specs.Tail.{Tail}
use Rattle.cast_view.specs.declared.member.Verdict.TheVariants.{Again, Skips, Completes}
use Rattle.cast_view.specs.declared.member.Verdict.TheVariants.{Pends, Ignored}
use Rattle.cast_view.specs.MemberSide.{verdict_of, is_put_out_by}
use Rattle.cast_rules.specs.Rules.Interface.{Site}
use Rattle.cast_rules.specs.Rules.Asking.{is_from_home}
use Rattle.cast_rules.specs.Rules.Leaving.{tell}

-- a view of nobody
abbrev pub no_members : Membership
no_members = record { list = []; holder = None }

-- each rule is of the group that stands at h
module _ {S H : Type 0} (d : Site S H) where
  -- the program of a process that was put out of a group is told so, and that of a member of a
  -- view is told the view
  abbrev pub tell_out : GroupNo → ℕ → S → ℕ → S
  tell_out g n s k = tell d s k (push.Ejected g n)

  abbrev pub tell_view : GroupNo → ℕ → Membership → S → ℕ → S
  tell_view g n members s k = tell d s k (push.View g n members)

  -- a site passes to the next view, all its processes at once; then those that were put out are
  -- told, and then the members
  abbrev pub enter_and_tell : Bool → S → H → ℕ → Membership → ℕ → CountList → S
  enter_and_tell skips s h n members request cut =
      let entered : S = d.enter_view s h skips n members request cut in
      fold (tell_view (d.name s h) n members)
      (fold (tell_out (d.name s h) n) entered (d.put_out s h skips members)) (d.members entered h)

  -- messages of the view before it are kept no longer, and nothing is owed for it. The first
  -- argument says whether a view was skipped
  abbrev pub change_view : Bool → S → H → ℕ → Membership → ℕ → CountList → S
  change_view skips s h n members request cut =
      d.pay_view (d.release_ended (enter_and_tell skips s h n members request cut) h) (d.name s h)

  -- it tells the home
  abbrev pub install : Bool → S → H → SiteNo → ℕ → Membership → ℕ → CountList → S
  install skips s h from n members request cut =
      d.send (change_view skips s h n members request cut) from (frame.Installed (d.name s h) n)

  -- a view is installed by a site that has none, and where it skips a number; of one that the site
  -- knows the home is told again. The Install of the next view of a site that has one waits, until
  -- the members here have delivered its cut
  abbrev pub on_install : S → H → SiteNo → ℕ → Membership → ℕ → CountList → Tail → S
  on_install s h from n members request cut tail =
      if is_from_home d s from
      then elim (verdict_of (d.group s h) n) [
        | Again ↦ d.send s from (frame.Installed (d.name s h) n)
        | Skips ↦ install true s h from n members request cut
        | Completes ↦ install false s h from n members request cut
        | Pends ↦ d.pend s h (record { members = members; request = request; cut = cut }) tail
        | Ignored ↦ s
      ]
      else s

  -- a site that is told of a view without members here, of a number that it has not reached, has no
  -- view any more: its members are put out
  abbrev pub on_out : S → H → ℕ → S
  on_out s h n = if is_put_out_by (d.group s h) n then change_view true s h n no_members 0 [] else s
