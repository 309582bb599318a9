-- By the rules of stability a site that follows another goes on standing for it.
use Rattle.std.proofs.Common.{◌≡◌, ℕ, Bool, true, false, ◌&&◌, List, [], ◌∷◌, refl, sym, ap, subst, ◌∙◌}
use Rattle.std.specs.Prelude.{nat_lt, nat_le, if◌then◌else◌}
use Rattle.std.specs.List.{fold}
use Rattle.std.proofs.lemmas.Bool.{and_parts, false≢true}
use Rattle.cast_types.specs.declared.names.SiteNo.{SiteNo}
use Rattle.cast_types.specs.declared.names.Uid.{Uid}
use Rattle.cast_types.specs.Names.{site_eq}
use Rattle.cast_types.specs.Sets.{is_among}
use Rattle.cast_message.specs.declared.site.SiteFrame.TheVariants as frame
use Rattle.cast_timer.specs.declared.key.OwedKind.TheVariants as kinds
use Rattle.cast_view.specs.MemberSide.{is_current}
use Rattle.cast_rules.specs.Rules.Keys.{message_key}
use Rattle.cast_rules.specs.Rules.Interface.{Site}
use Rattle.cast_rules.specs.Rules.Stability.{is_used_ack, with_ack, tell_stable, tell_more, on_ack, on_stable}
use Rattle.cast_rules.proofs.Rules.Follows.{Follows, choose, each}

module _ {R S H K : Type 0} (a : Site R H) (b : Site S K) (fits : R → S → Type 0) (stands : H → K → Type 0)
    (follows : Follows a b fits stands) where
  -- a choice that changes nothing
  stays : (c e : Bool) (r : R) (s : S) → fits r s → fits (if c then r else r) (if e then s else s)
  stays true true r s f = f
  stays true false r s f = f
  stays false true r s f = f
  stays false false r s f = f

  tell_follows : (u : Uid) (n : ℕ) (r : R) (s : S) (to : SiteNo) → fits r s → fits (tell_stable a u n r to) (tell_stable b u n s to)
  tell_follows u n r s to f = follows.send r s f to (frame.Stable (record u { count = n }))

  -- how many are stable matters only where the view has another site
  tell_where_more : (r : R) (s : S) → fits r s → (u : Uid) (before after n m : ℕ) (xs ys : List SiteNo) → before ≡ after → xs ≡ ys →
      ((ys ≡ [] → ⊥) → n ≡ m) →
      fits (if nat_lt before n then fold (tell_stable a u n) r xs else r) (if nat_lt after m then fold (tell_stable b u m) s ys else s)
  tell_where_more r s f u before after n m xs [] same sites upto =
      subst (λ l. fits (if nat_lt before n then fold (tell_stable a u n) r l else r) (if nat_lt after m then s else s)) (sym sites)
      (stays (nat_lt before n) (nat_lt after m) r s f)
  tell_where_more r s f u before after n m xs (y ∷ ys) same sites upto =
      let k : n ≡ m = upto (λ none. cc) in
      subst (λ x. fits x (if nat_lt after m then fold (tell_stable b u m) s (y ∷ ys) else s))
      (λ j. if nat_lt (sym same j) (sym k j) then fold (tell_stable a u (sym k j)) r (sym sites j) else r)
      (choose fits (nat_lt after m) (nat_lt after m) (fold (tell_stable a u m) r (y ∷ ys)) r (fold (tell_stable b u m) s (y ∷ ys)) s refl
      (λ _. each fits (tell_stable a u m) (tell_stable b u m) (tell_follows u m) (y ∷ ys) r s f)
      (λ _. f))

  tell_more_follows : (r : R) (s : S) → fits r s → (u : Uid) → follows.asked s u → (before after : ℕ) → before ≡ after →
      fits (tell_more a u before r) (tell_more b u after s)
  tell_more_follows r s f u asked before after same =
      tell_where_more r s f u before after (a.stable_upto r u) (b.stable_upto s u) (a.others r u.group) (b.others s u.group)
      same (follows.others r s f u.group) (follows.stable_upto r s f u asked)

  pub ack_follows : (r : R) (s : S) → fits r s → (h : H) (k : K) → stands h k → (from : SiteNo) (u : Uid) →
      (is_used_ack b s k from u ≡ true → follows.asked s u) → fits (on_ack a r h from u) (on_ack b s k from u)
  ack_follows r s f h k at from u is_asked =
      let same : is_used_ack a r h from u ≡ is_used_ack b s k from u = (λ j.
      is_current (follows.group r s f h k at j) u.view
      && (nat_lt 0 u.count && (site_eq u.proc.site (follows.here r s f j) && is_among site_eq from (follows.others r s f u.group j)))) in
      choose fits (is_used_ack a r h from u) (is_used_ack b s k from u) _ r _ s same
      (λ used.
      let current = and_parts (is_current (b.group s k) u.view) _ used in
      let counted = and_parts (nat_lt 0 u.count) _ current.1 in
      let other = (and_parts (site_eq u.proc.site (b.here s)) (is_among site_eq from (b.others s u.group)) counted.1).1 in
      let key = message_key kinds.Data u from in
      let asked = is_asked used in
      let paid = (follows.still_asked u).pay s asked key in
      let asked_now : follows.asked (with_ack b s from u) u = (follows.still_asked u).note_ack (b.pay s key) paid from u in
      let known : fits (with_ack a r from u) (with_ack b s from u) =
      follows.note_ack (a.pay r key) (b.pay s key) (follows.pay r s f key) from u in
      let n = follows.stable_upto r s f u asked (λ none. false≢true (ap (is_among site_eq from) (sym none) ∙ other)) in
      choose fits (nat_le u.count (a.stable_upto r u)) (nat_le u.count (b.stable_upto s u))
      (tell_stable a u (a.stable_upto r u) (with_ack a r from u) from) (tell_more a u (a.stable_upto r u) (with_ack a r from u))
      (tell_stable b u (b.stable_upto s u) (with_ack b s from u) from) (tell_more b u (b.stable_upto s u) (with_ack b s from u))
      (ap (nat_le u.count) n)
      (λ _. subst
      (λ x. fits (tell_stable a u x (with_ack a r from u) from) (tell_stable b u (b.stable_upto s u) (with_ack b s from u) from)) (sym n)
      (tell_follows u (b.stable_upto s u) (with_ack a r from u) (with_ack b s from u) from known))
      (λ _. tell_more_follows (with_ack a r from u) (with_ack b s from u) known u asked_now (a.stable_upto r u) (b.stable_upto s u) n))
      (λ _. f)

  pub stable_follows : (r : R) (s : S) → fits r s → (h : H) (k : K) → stands h k → (from : SiteNo) (u : Uid) →
      fits (on_stable a r h from u) (on_stable b s k from u)
  stable_follows r s f h k at from u =
      let key = message_key kinds.Ack u u.proc.site in
      choose fits (is_current (a.group r h) u.view && site_eq u.proc.site from) (is_current (b.group s k) u.view
      && site_eq u.proc.site from) (a.note_stable (a.pay_upto r key) u) r (b.note_stable (b.pay_upto s key) u) s
      (λ j. is_current (follows.group r s f h k at j) u.view && site_eq u.proc.site from)
      (λ _. follows.note_stable (a.pay_upto r key) (b.pay_upto s key) (follows.pay_upto r s f key) u)
      (λ _. f)
