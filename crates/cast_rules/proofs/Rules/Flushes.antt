-- By the rules of a flush at a site of the view a site that follows another goes on standing for it.
use Rattle.std.proofs.Common.{◌≡◌, ℕ, ◌+◌, Bool, true, false, not, ◌&&◌, List, [], ◌∷◌}
use Rattle.std.proofs.Common.{Option, Some, None, refl, sym, ap, subst, ◌∙◌, arith}
use Rattle.std.specs.Prelude.{◌==◌, if◌then◌else◌}
use Rattle.std.specs.List.{fold, list_all}
use Rattle.std.proofs.lemmas.Bool.{and_parts, not-true}
use Rattle.cast_types.specs.declared.names.SiteNo.{SiteNo}
use Rattle.cast_types.specs.declared.names.GroupNo.{GroupNo}
use Rattle.cast_types.specs.Names.{Entry, group_eq, proc_eq, uid_in}
use Rattle.cast_types.specs.Sets.{is_among}
use Rattle.cast_message.specs.declared.message.Message.{Message}
use Rattle.cast_message.specs.declared.site.SiteFrame.TheVariants as frame
use Rattle.cast_message.specs.Membership.{is_members}
use Rattle.cast_timer.specs.declared.key.OwedKey.{OwedKey}
use Rattle.cast_timer.specs.declared.key.OwedKind.TheVariants.{Want}
use Rattle.cast_events.specs.declared.config.DomainConfig.{DomainConfig}
use Rattle.cast_view.specs.declared.member.Pending.{Pending}
use Rattle.cast_view.specs.MemberSide.{members_of, answers_prepare, is_current, is_pending}
use Rattle.cast_rules.specs.Lawful.{IsTypedFrame}
use Rattle.cast_rules.specs.Rules.Keys.{message_key}
use Rattle.cast_rules.specs.Rules.Interface.{Site, Resting}
use Rattle.cast_rules.specs.Rules.Owing.{owe}
use Rattle.cast_rules.specs.Rules.Asking.{is_from_home}
use Rattle.cast_rules.specs.Rules.Data.{counts_itself, names_member, is_well_formed}
use Rattle.cast_rules.specs.Rules.Views.{install}
use Rattle.cast_rules.specs.Rules.Release.{let_go}
use Rattle.cast_rules.specs.Rules.Flushes.{flushed_frame, on_prepare, own_want_key, is_wanted_here}
use Rattle.cast_rules.specs.Rules.Flushes.{on_wanted, complete, want_own, complete_or_want, go_on}
use Rattle.cast_rules.proofs.Rules.Follows.{FollowsAll, choose, IsInvariantOfAll, AlsoHolds, SamePlace, follows_itself_in_all}
use Rattle.cast_rules.proofs.Rules.Owing.{owe_follows}
use Rattle.cast_rules.proofs.Rules.Asking.{from_home_same}
use Rattle.cast_rules.proofs.Rules.Requests.{send_as}
use Rattle.cast_rules.proofs.Rules.Data.{want_no_more_follows}
use Rattle.cast_rules.proofs.Rules.Views.{install_view_follows}

-- what a message is that is wanted of the view that ends
module _ {S H : Type 0} (d : Site S H) (s : S) (h : H) (m : Message) (wanted : is_wanted_here d s h m ≡ true) where
  wanted_owed_formed : (d.is_owed s (message_key Want m.id (d.config s).home)
      && ((m.id.view == (d.group s h).number)
      && is_well_formed d s (members_of (d.group s h)) m)) ≡ true
  wanted_owed_formed = (and_parts (is_pending (d.group s h)) _ wanted).1

  wanted_current_formed : ((m.id.view == (d.group s h).number) && is_well_formed d s (members_of (d.group s h)) m) ≡ true
  wanted_current_formed = (and_parts (d.is_owed s (message_key Want m.id (d.config s).home)) _ wanted_owed_formed).1

  wanted_formed : is_well_formed d s (members_of (d.group s h)) m ≡ true
  wanted_formed = (and_parts (m.id.view == (d.group s h).number) _ wanted_current_formed).1

  wanted_member_counts : (is_among proc_eq m.id.proc (members_of (d.group s h))
      && (names_member (members_of (d.group s h)) m.body
      && counts_itself m)) ≡ true
  wanted_member_counts = (and_parts (list_all (λ c. is_among group_eq c.0 (d.config s).groups) m.times) _ wanted_formed).1

  pub wanted_current : (m.id.view == (d.group s h).number) ≡ true
  wanted_current = (and_parts (m.id.view == (d.group s h).number) _ wanted_current_formed).0

  pub wanted_known : list_all (λ c. is_among group_eq c.0 (d.config s).groups) m.times ≡ true
  wanted_known = (and_parts (list_all (λ c. is_among group_eq c.0 (d.config s).groups) m.times) _ wanted_formed).0

  pub wanted_of_member : is_among proc_eq m.id.proc (members_of (d.group s h)) ≡ true
  wanted_of_member = (and_parts (is_among proc_eq m.id.proc (members_of (d.group s h))) _ wanted_member_counts).0

module _ {R S H K : Type 0} (a : Site R H) (b : Site S K) (fits : R → S → Type 0) (stands : H → K → Type 0)
    (all : FollowsAll a b fits stands) where
  -- Prepare is answered with the same report
  pub prepare_follows : (r : R) (s : S) → fits r s → (h : H) (k : K) → stands h k → (from : SiteNo) (view : ℕ) →
      fits (on_prepare a r h from view) (on_prepare b s k from view)
  prepare_follows r s f h k at from view =
      let group = all.follows.group r s f h k at in
      let home = from_home_same a b fits stands all r s f from in
      let name = all.name r s f h k at in
      choose fits (is_from_home a r from && answers_prepare (a.group r h) view)
      (is_from_home b s from && answers_prepare (b.group s k) view) _ r _ s
      (λ j. home j && answers_prepare (group j) view)
      (λ is.
      let answers = (and_parts (is_from_home b s from) (answers_prepare (b.group s k) view) is).1 in
      let first : is_pending (b.group s k) ≡ false =
      not-true (is_pending (b.group s k)) (and_parts (is_current (b.group s k) view) (not (is_pending (b.group s k))) answers).1 in
      let report = all.report r s f h k at first in
      send_as a b fits stands all (a.freeze r h) (b.freeze s k) (all.freeze r s f h k at)
      from (flushed_frame (a.name r h) view (a.report r h)) (flushed_frame (b.name s k) view (b.report s k))
      (λ j. flushed_frame (name j) view (report j)))
      (λ _. f)

  -- a message is wanted at both sites or at neither
  wanted_here_same : (r : R) (s : S) → fits r s → (h : H) (k : K) → stands h k → (m : Message) →
      is_wanted_here a r h m ≡ is_wanted_here b s k m
  wanted_here_same r s f h k at m =
      let group = all.follows.group r s f h k at in
      let config = all.follows.config r s f in
      let owed : a.is_owed r (message_key Want m.id (a.config r).home) ≡ b.is_owed s (message_key Want m.id (b.config s).home) =
      ap (λ (c : DomainConfig). a.is_owed r (message_key Want m.id c.home)) config
      ∙ all.follows.is_owed r s f (message_key Want m.id (b.config s).home) in
      λ j. is_pending (group j)
      && (owed j
      && ((m.id.view == (group j).number)
      && (list_all (λ c. is_among group_eq c.0 (config j).groups) m.times
      && (is_among proc_eq m.id.proc (members_of (group j))
      && (names_member (members_of (group j)) m.body
      && counts_itself m)))))

  -- a message that the home forwards is received at both sites
  pub wanted_follows : (r : R) (s : S) → fits r s → (h : H) (k : K) → stands h k → (from : SiteNo) (m : Message) →
      b.place s m.id.group ≡ Some k → IsTypedFrame (frame.Forward m) → fits (on_wanted a r h from m) (on_wanted b s k from m)
  wanted_follows r s f h k at from m there typed =
      let home = from_home_same a b fits stands all r s f from in
      let wanted = wanted_here_same r s f h k at m in
      choose fits (is_from_home a r from && is_wanted_here a r h m) (is_from_home b s from && is_wanted_here b s k m) _ r _ s
      (λ j. home j && wanted j)
      (λ is. want_no_more_follows a b fits stands all (a.receive r m) (b.receive s m)
      (all.brings r s f k m
      (record { at = there; wanted = (and_parts (is_from_home b s from) (is_wanted_here b s k m) is).1; typed = typed })) m.id)
      (λ _. f)

  -- a message of the view that ends is wanted from the same home
  pub want_own_follows : (h : H) (k : K) → stands h k → (r : R) (s : S) (e : Entry) → fits r s → fits (want_own a h r e) (want_own b k s e)
  want_own_follows h k at r s e f =
      let name = all.name r s f h k at in
      let group = all.follows.group r s f h k at in
      let config = all.follows.config r s f in
      let key : OwedKey = own_want_key b s k e in
      let same : own_want_key a r h e ≡ key = (λ j. message_key Want (uid_in (name j) (group j).number e) (config j).home) in
      subst (λ x. fits (owe a r x) (owe b s key)) (sym same) (owe_follows a b fits stands all.follows r s f key)

  -- the Install that waits is completed at both sites
  pub complete_follows : (r : R) (s : S) → fits r s → (h : H) (k : K) → stands h k → (g : GroupNo) → b.place s g ≡ Some k → (p : Pending) →
      is_members p.members ≡ true → fits (complete a r h p) (complete b s k p)
  complete_follows r s f h k at g there p typed =
      let group = all.follows.group r s f h k at in
      let config = all.follows.config r s f in
      let home : SiteNo = (b.config s).home in
      let n : ℕ = (b.group s k).number + 1 in
      let same : complete a r h p ≡ install a false r h home n p.members p.request p.cut =
      (λ j. install a false r h (config j).home ((group j).number + 1) p.members p.request p.cut) in
      subst (λ x. fits x (complete b s k p)) (sym same)
      (install_view_follows a b fits stands all false r s f h k at home g there n p.members p.request p.cut typed (omega arith))

-- an invariant of all moves holds after the Install that waits is completed, or what it lacks is wanted
module _ {S H : Type 0} (d : Site S H) (q : Resting S H) (holds : S → Type 0) (keeps : IsInvariantOfAll d holds) where
  pub want_own_keeps : (h : H) (s : S) → holds s → (e : Entry) → holds (want_own d h s e)
  want_own_keeps h s l e =
      (want_own_follows d d (AlsoHolds holds) SamePlace (follows_itself_in_all d holds keeps) h h refl s s e (refl, l)).1

  wants_keep : (h : H) (es : List Entry) (s : S) → holds s → holds (fold (want_own d h) s es)
  wants_keep h [] s l = l
  wants_keep h (e ∷ es) s l = wants_keep h es (want_own d h s e) (want_own_keeps h s l e)

  pub complete_keeps : (s : S) → holds s → (h : H) (g : GroupNo) → d.place s g ≡ Some h → (p : Pending) → is_members p.members ≡ true →
      holds (complete d s h p)
  complete_keeps s l h g there p typed =
      (complete_follows d d (AlsoHolds holds) SamePlace (follows_itself_in_all d holds keeps) s s (refl, l) h h refl g there p typed).1

  -- of the group g, which stands at h; what waits there has the members of a view
  pub go_on_keeps : ((s : S) → holds s → holds (let_go d q s)) → (s : S) → holds s → (h : H) (g : GroupNo) → d.place s g ≡ Some h →
      ((p : Pending) → (d.group s h).pending ≡ Some p → is_members p.members ≡ true) → holds (go_on d q s h)
  go_on_keeps lets s l h g there typed = waits (d.group s h).pending typed
    where
      either : (c : Bool) (x y : S) → holds x → holds y → holds (if c then x else y)
      either true x y m n = m
      either false x y m n = n

      waits : (o : Option Pending) → ((p : Pending) → o ≡ Some p → is_members p.members ≡ true) →
          holds (elim o [ Some p ↦ complete_or_want d q s h p | None ↦ s ])
      waits (Some p) known =
          either (q.has_cut s h p.cut) (let_go d q (complete d s h p))
          _ (lets (complete d s h p) (complete_keeps s l h g there p (known p refl))) (wants_keep h (q.missing s h p.cut) s l)
      waits None known = l
