-- By the rules of requests a site that follows another goes on standing for it.
use Rattle.std.proofs.Common.{◌≡◌, ℕ, Bool, true, false, ◌&&◌, Option, Some, None, refl, sym, ap, subst, ◌∙◌}
use Rattle.std.specs.Prelude.{◌==◌, if◌then◌else◌}
use Rattle.cast_types.specs.declared.names.SiteNo.{SiteNo}
use Rattle.cast_types.specs.declared.names.Proc.{Proc}
use Rattle.cast_message.specs.declared.site.Change.{Change}
use Rattle.cast_message.specs.declared.site.SiteFrame.{SiteFrame}
use Rattle.cast_message.specs.declared.site.SiteFrame.TheVariants as frame
use Rattle.cast_timer.specs.declared.key.OwedKey.{OwedKey}
use Rattle.cast_view.specs.declared.member.PendingRequest.{PendingRequest}
use Rattle.cast_view.specs.MemberSide.{MemberSide, first_asking}
use Rattle.cast_view.specs.Home.{answer_to}
use Rattle.cast_view.specs.Home.HomeMove.{Asked}
use Rattle.cast_types.specs.declared.names.GroupNo.{GroupNo}
use Rattle.cast_types.specs.declared.names.Standing.{Standing}
use Rattle.cast_types.specs.declared.names.Standing.TheVariants.{Outside, Joining, Member}
use Rattle.cast_types.specs.declared.refusal.Refusal.TheVariants.{GroupFull}
use Rattle.cast_message.specs.declared.client.Push.TheVariants as push
use Rattle.cast_ready.specs.Ready.{is_outside}
use Rattle.std.proofs.lemmas.Bool.{false≢true}
use Rattle.cast_rules.specs.Rules.Keys.{ask_key}
use Rattle.cast_rules.specs.Rules.Interface.{Site}
use Rattle.cast_rules.specs.Rules.Asking.{is_home, is_from_home, ask_home}
use Rattle.cast_rules.specs.Rules.Leaving.{tell}
use Rattle.cast_rules.specs.Rules.Requests.{answer_ask, on_ask, is_joining_by, deny, deny_if, take_answer, on_asked}
use Rattle.cast_rules.proofs.Rules.Follows.{FollowsAll, choose}
use Rattle.cast_rules.proofs.Rules.Asking.{home_same, from_home_same, key_same, ask_home_follows}
use Rattle.cast_rules.proofs.Rules.Leaving.{tell_follows}

module _ {R S H K : Type 0} (a : Site R H) (b : Site S K) (fits : R → S → Type 0) (stands : H → K → Type 0)
    (all : FollowsAll a b fits stands) where
  -- a frame may be written in two ways
  pub send_as : (r : R) (s : S) → fits r s → (to : SiteNo) (x y : SiteFrame) → x ≡ y → fits (a.send r to x) (b.send s to y)
  send_as r s f to x y same = subst (λ z. fits (a.send r to z) (b.send s to y)) (sym same) (all.follows.send r s f to y)

  answer_follows : (r : R) (s : S) → fits r s → (h : H) (k : K) → stands h k → (from : SiteNo) (number : ℕ) (full : Option Bool) →
      fits (answer_ask a r h from number full) (answer_ask b s k from number full)
  answer_follows r s f h k at from number None = f
  answer_follows r s f h k at from number (Some full) =
      send_as r s f from (frame.Asked (a.name r h) number full) (frame.Asked (b.name s k) number full)
      (ap (λ g. frame.Asked g number full) (all.name r s f h k at))

  pub ask_follows : (r : R) (s : S) → fits r s → (h : H) (k : K) → stands h k → (from : SiteNo) (number : ℕ) (what : Change) (p : Proc) →
      fits (on_ask a r h from number what p) (on_ask b s k from number what p)
  ask_follows r s f h k at from number what p =
      let next : R = a.move_home r h (Asked from number what p) in
      let after : S = b.move_home s k (Asked from number what p) in
      choose fits (is_home a r) (is_home b s) _ r _ s (home_same a b fits stands all r s f)
      (λ _. subst (λ x. fits (answer_ask a next h from number (answer_to x from number what p))
      (answer_ask b after k from number (answer_to (b.home s k) from number what p))) (sym (all.follows.home r s f h k at))
      (answer_follows next after (all.move_home r s f h k at (Asked from number what p))
      h k at from number (answer_to (b.home s k) from number what p)))
      (λ _. f)

  -- who still joins is not outside
  joining_inside : (v : Standing) (number : ℕ) → is_joining_by v number ≡ true → is_outside v ≡ false
  joining_inside Outside number is = absurd (false≢true is)
  joining_inside (Joining request heard) number is = refl
  joining_inside Member number is = refl

  deny_follows : (r : R) (s : S) → fits r s → (h : H) (k : K) → stands h k → (x : PendingRequest) → fits (deny a r h x) (deny b s k x)
  deny_follows r s f h k at x =
      let p : ℕ = x.proc.serial in
      let g : GroupNo = b.name s k in
      let name : a.name r h ≡ g = all.name r s f h k at in
      choose fits (is_joining_by (a.standing r p (a.name r h)) x.number) (is_joining_by (b.standing s p g) x.number) _ r _ s
      (ap (λ y. is_joining_by (a.standing r p y) x.number) name ∙ ap (λ v. is_joining_by v x.number) (all.standing r s f p g))
      (λ joins. subst (λ y. fits (tell a (a.note_outside r p y) p (push.Denied y GroupFull))
      (tell b (b.note_outside s p g) p (push.Denied g GroupFull))) (sym name)
      (tell_follows a b fits stands all (a.note_outside r p g) (b.note_outside s p g)
      (all.note_outside r s f p g (joining_inside (b.standing s p g) x.number joins)) p (push.Denied g GroupFull)))
      (λ _. f)

  take_answer_follows : (r : R) (s : S) → fits r s → (h : H) (k : K) → stands h k → fits (take_answer a r h) (take_answer b s k)
  take_answer_follows r s f h k at =
      let key : OwedKey = ask_key (b.name s k) (b.config s).home in
      subst (λ x. fits (ask_home a (a.note_answer (a.pay r x) h) h) (take_answer b s k)) (sym (key_same a b fits stands all r s f h k at))
      (ask_home_follows a b fits stands all (a.note_answer (a.pay r key) h) (b.note_answer (b.pay s key) k)
      (all.note_answer (a.pay r key) (b.pay s key) (all.follows.pay r s f key) h k at) h k at)

  pub asked_follows : (r : R) (s : S) → fits r s → (h : H) (k : K) → stands h k → (from : SiteNo) (number : ℕ) (full : Bool) →
      fits (on_asked a r h from number full) (on_asked b s k from number full)
  asked_follows r s f h k at from number full =
      subst (λ o. fits (elim o [
        | Some x ↦ (if is_from_home a r from && (x.number == number) then (deny_if a full (take_answer a r h) h x)
            else r)
        | None ↦ r
      ]) (on_asked b s k from number full))
      (sym (ap (λ (x : MemberSide). first_asking x.requests) (all.follows.group r s f h k at)))
      (first (first_asking (b.group s k).requests))
    where
      now : fits (take_answer a r h) (take_answer b s k)
      now = take_answer_follows r s f h k at

      answered : (x : PendingRequest) (c : Bool) → fits (deny_if a c (take_answer a r h) h x) (deny_if b c (take_answer b s k) k x)
      answered x true = deny_follows (take_answer a r h) (take_answer b s k) now h k at x
      answered x false = now

      first : (o : Option PendingRequest) → fits (elim o [
        | Some x ↦
            (if is_from_home a r from && (x.number == number) then (deny_if a full (take_answer a r h) h x) else r)
        | None ↦ r
      ])
          (elim o [
            | Some x ↦
                (if is_from_home b s from && (x.number == number) then (deny_if b full (take_answer b s k) k x) else s)
            | None ↦ s
          ])
      first (Some x) =
          choose fits (is_from_home a r from && (x.number == number)) (is_from_home b s from && (x.number == number))
          ((deny_if a full (take_answer a r h) h x)) r ((deny_if b full (take_answer b s k) k x)) s
          (ap (λ c. c && (x.number == number)) (from_home_same a b fits stands all r s f from))
          (λ _. answered x full)
          (λ _. f)
      first None = f
