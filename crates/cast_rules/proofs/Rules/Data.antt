-- By the rules of messages that come from other sites a site that follows another goes on standing for it.
use Rattle.std.proofs.Common.{◌≡◌, sym, ap, subst, Some, true, not, ◌&&◌}
use Rattle.std.specs.Prelude.{◌==◌, nat_lt, if◌then◌else◌}
use Rattle.std.specs.List.{list_all, list_any}
use Rattle.std.proofs.lemmas.Bool.{and_parts}
use Rattle.cast_types.specs.declared.names.SiteNo.{SiteNo}
use Rattle.cast_types.specs.declared.names.Uid.{Uid}
use Rattle.cast_types.specs.Names.{site_eq, group_eq, proc_eq}
use Rattle.cast_types.specs.Sets.{is_among}
use Rattle.cast_message.specs.declared.message.Message.{Message}
use Rattle.cast_message.specs.declared.site.SiteFrame.TheVariants as frame
use Rattle.cast_timer.specs.declared.key.OwedKey.{OwedKey}
use Rattle.cast_timer.specs.declared.key.OwedKind.TheVariants as kinds
use Rattle.cast_view.specs.MemberSide.{MemberSide, members_of, has_view}
use Rattle.cast_view.specs.Sites.{is_at}
use Rattle.cast_events.specs.declared.config.DomainConfig.{DomainConfig}
use Rattle.cast_rules.specs.Lawful.{IsTypedFrame}
use Rattle.cast_rules.specs.Rules.Keys.{message_key}
use Rattle.cast_rules.specs.Rules.Interface.{Site}
use Rattle.cast_rules.specs.Rules.Room.{may_take}
use Rattle.cast_rules.specs.Rules.Owing.{owe}
use Rattle.cast_rules.specs.Rules.Data.{counts_itself, names_member, is_well_formed, is_used}
use Rattle.cast_rules.specs.Rules.Data.{is_outdated, acknowledge, want_no_more, use_data, on_data}
use Rattle.cast_rules.proofs.Rules.Follows.{FollowsAll, IsTaken, choose}
use Rattle.cast_rules.proofs.Rules.Owing.{owe_follows}
use Rattle.cast_rules.proofs.Rules.Requests.{send_as}
use Rattle.cast_rules.proofs.Rules.Room.{take_same}

-- what a message is that is used
module _ {S H : Type 0} (d : Site S H) (s : S) (h : H) (from : SiteNo) (m : Message) (used : is_used d s h from m ≡ true) where
  used_apart : (not (site_eq from (d.here s)) && ((m.id.view == (d.group s h).number) && is_well_formed d s (members_of (d.group s h)) m))
      ≡ true
  used_apart = (and_parts (site_eq m.id.proc.site from) _ used).1

  used_current_formed : ((m.id.view == (d.group s h).number) && is_well_formed d s (members_of (d.group s h)) m) ≡ true
  used_current_formed = (and_parts (not (site_eq from (d.here s))) _ used_apart).1

  used_formed : is_well_formed d s (members_of (d.group s h)) m ≡ true
  used_formed = (and_parts (m.id.view == (d.group s h).number) _ used_current_formed).1

  used_member_counts : (is_among proc_eq m.id.proc (members_of (d.group s h))
      && (names_member (members_of (d.group s h)) m.body
      && counts_itself m)) ≡ true
  used_member_counts = (and_parts (list_all (λ c. is_among group_eq c.0 (d.config s).groups) m.times) _ used_formed).1

  pub used_current : (m.id.view == (d.group s h).number) ≡ true
  used_current = (and_parts (m.id.view == (d.group s h).number) _ used_current_formed).0

  pub used_known : list_all (λ c. is_among group_eq c.0 (d.config s).groups) m.times ≡ true
  used_known = (and_parts (list_all (λ c. is_among group_eq c.0 (d.config s).groups) m.times) _ used_formed).0

  pub used_of_member : is_among proc_eq m.id.proc (members_of (d.group s h)) ≡ true
  used_of_member = (and_parts (is_among proc_eq m.id.proc (members_of (d.group s h))) _ used_member_counts).0

  pub used_counts : counts_itself m ≡ true
  used_counts =
      (and_parts (names_member (members_of (d.group s h)) m.body) (counts_itself m)
      (and_parts (is_among proc_eq m.id.proc (members_of (d.group s h))) _ used_member_counts).1).1

module _ {R S H K : Type 0} (a : Site R H) (b : Site S K) (fits : R → S → Type 0) (stands : H → K → Type 0)
    (all : FollowsAll a b fits stands) where
  acknowledge_follows : (r : R) (s : S) → fits r s → (to : SiteNo) (u : Uid) → a.is_stable r u ≡ b.is_stable s u →
      fits (acknowledge a r to u) (acknowledge b s to u)
  acknowledge_follows r s f to u same =
      choose fits (a.is_stable r u) (b.is_stable s u) (a.send r to (frame.Ack u)) (owe a r (message_key kinds.Ack u to))
      (b.send s to (frame.Ack u)) (owe b s (message_key kinds.Ack u to))
      same
      (λ _. all.follows.send r s f to (frame.Ack u))
      (λ _. owe_follows a b fits stands all.follows r s f (message_key kinds.Ack u to))

  -- a message is wanted from the same home no more
  pub want_no_more_follows : (r : R) (s : S) → fits r s → (u : Uid) → fits (want_no_more a r u) (want_no_more b s u)
  want_no_more_follows r s f u =
      let key : OwedKey = message_key kinds.Want u (b.config s).home in
      subst (λ (c : DomainConfig). fits (a.pay r (message_key kinds.Want u c.home)) (b.pay s key)) (sym (all.follows.config r s f))
      (all.follows.pay r s f key)

  use_data_follows : (r : R) (s : S) → fits r s → (k : K) (from : SiteNo) (m : Message) → IsTaken b s k from m →
      fits (use_data a r from m) (use_data b s from m)
  use_data_follows r s f k from m taken =
      let noted : R = acknowledge a (a.receive r m) from m.id in
      let told : S = acknowledge b (b.receive s m) from m.id in
      let next : R = want_no_more a noted m.id in
      let after : S = want_no_more b told m.id in
      choose fits (a.is_received r m.id) (b.is_received s m.id) (a.send r from (frame.Ack m.id)) (if may_take a r m.body then next else r)
      (b.send s from (frame.Ack m.id)) (if may_take b s m.body then after else s)
      (all.is_received r s f k from m taken)
      (λ _. all.follows.send r s f from (frame.Ack m.id))
      (λ new. choose fits (may_take a r m.body) (may_take b s m.body) next r after s (take_same a b fits stands all r s f m.body)
      (λ _. want_no_more_follows noted told (acknowledge_follows (a.receive r m) (b.receive s m) (all.receive r s f k from m taken new)
      from m.id (all.is_stable r s f k from m taken new)) m.id)
      (λ _. f))

  pub data_follows : (r : R) (s : S) → fits r s → (h : H) (k : K) → stands h k → (from : SiteNo) (m : Message) →
      b.place s m.id.group ≡ Some k → IsTypedFrame (frame.Data m) → fits (on_data a r h from m) (on_data b s k from m)
  data_follows r s f h k at from m there typed =
      let here = all.follows.here r s f in
      let config = all.follows.config r s f in
      let group = all.follows.group r s f h k at in
      choose fits (is_used a r h from m) (is_used b s k from m) (use_data a r from m) _ (use_data b s from m) _
      (λ j. site_eq m.id.proc.site from && (not (site_eq from (here j)) && ((m.id.view == (group j).number)
      && (list_all (λ c. is_among group_eq c.0 (config j).groups) m.times
      && (is_among proc_eq m.id.proc (members_of (group j))
      && (names_member (members_of (group j)) m.body
      && counts_itself m))))))
      (λ used. use_data_follows r s f k from m (record { at = there; used = used; typed = typed }))
      (λ _. choose fits (is_outdated a r h from m) (is_outdated b s k from m) _ r _ s
      (ap (λ (x : MemberSide). has_view x && (nat_lt m.id.view x.number && not (list_any (is_at from) (members_of x)))) group)
      (λ _. send_as a b fits stands all r s f from _ _ (λ j. frame.Out (all.name r s f h k at j) (group j).number))
      (λ _. f))
