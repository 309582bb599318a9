-- By the rules of owed frames a site that follows another goes on standing for it.
use Rattle.std.proofs.Common.{◌≡◌, ℕ, Option, Some, None, refl, sym, ap, subst, ◌∙◌}
use Rattle.std.specs.List.{fold}
use Rattle.std.specs.Option.{option_map, option_map_or, option_and_then}
use Rattle.cast_message.specs.declared.site.SiteFrame.{SiteFrame}
use Rattle.cast_message.specs.declared.site.SiteFrame.TheVariants as frame
use Rattle.cast_timer.specs.declared.key.OwedKey.{OwedKey}
use Rattle.cast_timer.specs.declared.key.OwedKind.{OwedKind}
use Rattle.cast_timer.specs.declared.key.OwedKind.TheVariants.{Ask, Data, Prepare, Want, Install, Ack}
use Rattle.cast_timer.specs.declared.key.Side.{Side}
use Rattle.cast_timer.specs.declared.key.Side.TheVariants as side
use Rattle.cast_view.specs.MemberSide.{MemberSide, first_asking}
use Rattle.cast_view.specs.Home.{Home}
use Rattle.cast_rules.specs.Rules.Keys.{id_in}
use Rattle.cast_rules.specs.Rules.Interface.{Site}
use Rattle.cast_rules.specs.Rules.Owing.{ask_frame, install_frame, wanted_view, frame_of_kind}
use Rattle.cast_rules.specs.Rules.Owing.{frame_for, send_for, owe, resend, resend_due, tick}
use Rattle.cast_rules.proofs.Rules.Follows.{Follows, AtBoth, choose, each, IsInvariant, AlsoHolds, SamePlace, follows_itself}

module _ {R S H K : Type 0} (a : Site R H) (b : Site S K) (fits : R → S → Type 0) (stands : H → K → Type 0)
    (follows : Follows a b fits stands) where
  -- either side of a flush wants messages of the same view
  wanted_same : (r : R) (s : S) → fits r s → (h : H) (k : K) → stands h k → (x : Side) → wanted_view a r h x ≡ wanted_view b s k x
  wanted_same r s f h k at side.Site = ap (λ (x : MemberSide). x.number) (follows.group r s f h k at)
  wanted_same r s f h k at side.Home = ap (λ (x : Home). x.number) (follows.home r s f h k at)

  kind_same : (r : R) (s : S) → fits r s → (h : H) (k : K) → stands h k → (key : OwedKey) (kind : OwedKind) →
      frame_of_kind a r h key kind ≡ frame_of_kind b s k key kind
  kind_same r s f h k at key Ask =
      ap (λ (x : MemberSide). option_map (ask_frame key.group) (first_asking x.requests)) (follows.group r s f h k at)
  kind_same r s f h k at key Data =
      ap (λ (x : MemberSide). option_map frame.Data (a.message r (id_in x.number key))) (follows.group r s f h k at)
      ∙ ap (option_map frame.Data) (follows.message r s f (id_in (b.group s k).number key))
  kind_same r s f h k at key Prepare = ap (λ (x : Home). Some (frame.Prepare key.group x.number)) (follows.home r s f h k at)
  kind_same r s f h k at key Want = ap (λ n. Some (frame.Want (id_in n key))) (wanted_same r s f h k at key.side)
  kind_same r s f h k at key Install = ap (λ (x : Home). install_frame key.group x key.site x.phase) (follows.home r s f h k at)
  kind_same r s f h k at key Ack = ap (λ (x : MemberSide). Some (frame.Ack (id_in x.number key))) (follows.group r s f h k at)

  -- a key stands for the same frame
  pub frame_same : (r : R) (s : S) → fits r s → (key : OwedKey) → frame_for a r key ≡ frame_for b s key
  frame_same r s f key = placed (a.place r key.group) (b.place s key.group) (follows.place r s f key.group)
    where
      placed : (o : Option H) (p : Option K) → AtBoth stands o p →
          option_and_then (λ h. frame_of_kind a r h key key.kind) o ≡ option_and_then (λ k. frame_of_kind b s k key key.kind) p
      placed (Some h) (Some k) at = kind_same r s f h k at key key.kind
      placed (Some h) None at = absurd at
      placed None (Some k) at = absurd at
      placed None None at = refl

  pub send_for_follows : (r : R) (s : S) → fits r s → (key : OwedKey) → fits (send_for a r key) (send_for b s key)
  send_for_follows r s f key =
      subst (λ o. fits (option_map_or (a.send r key.site) o r) (send_for b s key)) (sym (frame_same r s f key)) (sent (frame_for b s key))
    where
      sent : (o : Option SiteFrame) → fits (option_map_or (a.send r key.site) o r) (option_map_or (b.send s key.site) o s)
      sent (Some x) = follows.send r s f key.site x
      sent None = f

  pub owe_follows : (r : R) (s : S) → fits r s → (key : OwedKey) → fits (owe a r key) (owe b s key)
  owe_follows r s f key =
      choose fits (a.is_owed r key) (b.is_owed s key) r (a.note_owed (send_for a r key) key) s (b.note_owed (send_for b s key) key)
      (follows.is_owed r s f key)
      (λ _. f)
      (λ _. follows.note_owed (send_for a r key) (send_for b s key) (send_for_follows r s f key) key)

  resend_follows : (r : R) (s : S) (key : OwedKey) → fits r s → fits (resend a r key) (resend b s key)
  resend_follows r s key f = follows.note_resent (send_for a r key) (send_for b s key) (send_for_follows r s f key) key

  pub tick_follows : (r : R) (s : S) → fits r s → (t : ℕ) → fits (tick a r t) (tick b s t)
  tick_follows r s f t =
      let at : R = a.note_moment r t in
      let after : S = b.note_moment s t in
      let now : fits at after = follows.note_moment r s f t in
      subst (λ keys. fits (fold (resend a) at keys) (resend_due b after)) (sym (follows.due at after now))
      (each fits (resend a) (resend b) resend_follows (b.due after) at after now)

-- an invariant of the moves holds after each of these rules
module _ {S H : Type 0} (d : Site S H) (holds : S → Type 0) (keeps : IsInvariant d holds) where
  pub send_for_keeps : (s : S) → holds s → (key : OwedKey) → holds (send_for d s key)
  send_for_keeps s l key = (send_for_follows d d (AlsoHolds holds) SamePlace (follows_itself d holds keeps) s s (refl, l) key).1

  pub owe_keeps : (s : S) → holds s → (key : OwedKey) → holds (owe d s key)
  owe_keeps s l key = (owe_follows d d (AlsoHolds holds) SamePlace (follows_itself d holds keeps) s s (refl, l) key).1

  pub tick_keeps : (s : S) → holds s → (t : ℕ) → holds (tick d s t)
  tick_keeps s l t = (tick_follows d d (AlsoHolds holds) SamePlace (follows_itself d holds keeps) s s (refl, l) t).1
