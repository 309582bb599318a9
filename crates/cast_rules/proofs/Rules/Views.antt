-- By the rules of views a site that follows another goes on standing for it.
use Rattle.std.proofs.Common.{◌≡◌, ◌<◌, ℕ, Bool, true, false, [], Some, refl, sym, ap, subst, arith}
use Rattle.std.specs.Prelude.{nat_le, nat_lt, ◌+◌, if◌then◌else◌, not}
use Rattle.std.specs.List.{fold}
use Rattle.std.proofs.lemmas.Bool.Decides.{nat_tests}
use Rattle.cast_types.specs.declared.names.SiteNo.{SiteNo}
use Rattle.cast_types.specs.declared.names.GroupNo.{GroupNo}
use Rattle.cast_types.specs.Counts.{CountList}
use Rattle.cast_message.specs.declared.site.SiteFrame.TheVariants as frame
use Rattle.cast_message.specs.declared.client.Push.TheVariants as push
use Rattle.cast_message.specs.Membership.{Membership, is_members}
use Rattle.cast_message.specs.Tail.{Tail}
use Rattle.cast_view.specs.MemberSide.{MemberSide, verdict_of, has_view, is_pending, is_put_out_by}
use Rattle.cast_view.specs.declared.member.Verdict.{Verdict}
use Rattle.cast_view.specs.declared.member.Verdict.TheVariants.{Again, Skips, Completes, Pends, Ignored}
use Rattle.cast_rules.specs.Rules.Interface.{Site}
use Rattle.cast_rules.specs.Rules.Asking.{is_from_home}
use Rattle.cast_rules.specs.Rules.Views.{no_members, tell_out, tell_view, enter_and_tell, change_view, install, on_install, on_out}
use Rattle.cast_rules.proofs.Rules.Follows.{FollowsAll, choose, each}
use Rattle.cast_rules.proofs.Rules.Asking.{from_home_same}
use Rattle.cast_rules.proofs.Rules.Leaving.{tell_follows}
use Rattle.cast_rules.proofs.Rules.Requests.{send_as}

-- an Install that is not answered again has a number that the site has not reached
later_than : (g : MemberSide) (n : ℕ) → nat_le n g.number ≡ false → g.number < n
later_than g n above = grind (arith, nat_tests)

skips_later : (g : MemberSide) (n : ℕ) → verdict_of g n ≡ Skips → g.number < n
skips_later g n is =
    elim (nat_le n g.number) as (λ b. nat_le n g.number ≡ b → (if b then Again else if nat_lt (g.number + 1) n then Skips
    else if not (has_view g) then Completes else if is_pending g then Ignored else Pends) ≡ Skips → g.number < n) [
      | true ↦ λ _ e. absurd cc
      | false ↦ λ above _. later_than g n above
    ] refl is

completes_later : (g : MemberSide) (n : ℕ) → verdict_of g n ≡ Completes → g.number < n
completes_later g n is =
    elim (nat_le n g.number) as (λ b. nat_le n g.number ≡ b → (if b then Again else if nat_lt (g.number + 1) n then Skips
    else if not (has_view g) then Completes else if is_pending g then Ignored else Pends) ≡ Completes → g.number < n) [
      | true ↦ λ _ e. absurd cc
      | false ↦ λ above _. later_than g n above
    ] refl is

-- an Install is to wait only where none does
pends_first : (g : MemberSide) (n : ℕ) → verdict_of g n ≡ Pends → is_pending g ≡ false
pends_first g n is =
    elim (is_pending g) as (λ b. (if nat_le n g.number then Again else if nat_lt (g.number + 1) n then Skips
    else if not (has_view g) then Completes else if b then Ignored else Pends) ≡ Pends → b ≡ false) [
      | true ↦ λ e. absurd (never (nat_le n g.number) (nat_lt (g.number + 1) n) (not (has_view g)) e)
      | false ↦ λ _. refl
    ] is
  where
    never : (c d e : Bool) → (if c then Again else if d then Skips else if e then Completes else Ignored) ≡ Pends → ⊥
    never true d e is = cc
    never false true e is = cc
    never false false true is = cc
    never false false false is = cc

put_out_later : (g : MemberSide) (n : ℕ) → is_put_out_by g n ≡ true → g.number < n
put_out_later g n is = grind (arith, nat_tests)

-- what comes of an Install from the home, by what the site does with it
abbrev pub by_verdict_of : {S H : Type 0} → Site S H → S → H → SiteNo → ℕ → Membership → ℕ → CountList → Tail → Verdict → S
by_verdict_of d s h from n members request cut tail v = elim v [
  | Again ↦ d.send s from (frame.Installed (d.name s h) n)
  | Skips ↦ install d true s h from n members request cut
  | Completes ↦ install d false s h from n members request cut
  | Pends ↦ d.pend s h (record { members = members; request = request; cut = cut }) tail
  | Ignored ↦ s
]

module _ {R S H K : Type 0} (a : Site R H) (b : Site S K) (fits : R → S → Type 0) (stands : H → K → Type 0)
    (all : FollowsAll a b fits stands) where
  -- all its processes pass to the view, and then are told
  enter_follows : (skips : Bool) (r : R) (s : S) → fits r s → (h : H) (k : K) → stands h k → (g : GroupNo) → b.place s g ≡ Some k →
      (n : ℕ) (members : Membership) (request : ℕ) (cut : CountList) → is_members members ≡ true → (b.group s k).number < n →
      fits (enter_and_tell a skips r h n members request cut) (enter_and_tell b skips s k n members request cut)
  enter_follows skips r s f h k at g there n members request cut typed later =
      let entered = all.enter_view r s f h k at g skips n members request cut (record { at = there; later = later; typed = typed }) in
      let t : R = a.enter_view r h skips n members request cut in
      let u : S = b.enter_view s k skips n members request cut in
      let i : GroupNo = b.name s k in
      let name : a.name r h ≡ i = all.name r s f h k at in
      let out : a.put_out r h skips members ≡ b.put_out s k skips members = all.put_out r s f h k at skips members in
      let ins : a.members t h ≡ b.members u k = all.members t u entered h k at in
      subst (λ x. fits x (enter_and_tell b skips s k n members request cut))
      (λ j. fold (tell_view a (sym name j) n members) (fold (tell_out a (sym name j) n) t (sym out j)) (sym ins j))
      (each fits (tell_view a i n members) (tell_view b i n members)
      (λ x y p fit. tell_follows a b fits stands all x y fit p (push.View i n members)) (b.members u k) _ _
      (each fits (tell_out a i n) (tell_out b i n) (λ x y p fit. tell_follows a b fits stands all x y fit p (push.Ejected i n))
      (b.put_out s k skips members) t u entered))

  change_follows : (skips : Bool) (r : R) (s : S) → fits r s → (h : H) (k : K) → stands h k → (g : GroupNo) → b.place s g ≡ Some k →
      (n : ℕ) (members : Membership) (request : ℕ) (cut : CountList) → is_members members ≡ true → (b.group s k).number < n →
      fits (change_view a skips r h n members request cut) (change_view b skips s k n members request cut)
  change_follows skips r s f h k at g there n members request cut typed later =
      let told = enter_follows skips r s f h k at g there n members request cut typed later in
      let next : R = a.release_ended (enter_and_tell a skips r h n members request cut) h in
      let after : S = b.release_ended (enter_and_tell b skips s k n members request cut) k in
      let released : fits next after = all.release_ended _ _ told h k at in
      subst (λ x. fits (a.pay_view next x) (b.pay_view after (b.name s k))) (sym (all.name r s f h k at))
      (all.follows.pay_view next after released (b.name s k))

  pub install_view_follows : (skips : Bool) (r : R) (s : S) → fits r s → (h : H) (k : K) → stands h k → (from : SiteNo) (g : GroupNo) →
      b.place s g ≡ Some k → (n : ℕ) (members : Membership) (request : ℕ) (cut : CountList) → is_members members ≡ true →
      (b.group s k).number < n → fits (install a skips r h from n members request cut) (install b skips s k from n members request cut)
  install_view_follows skips r s f h k at from g there n members request cut typed later =
      send_as a b fits stands all (change_view a skips r h n members request cut) (change_view b skips s k n members request cut)
      (change_follows skips r s f h k at g there n members request cut typed later)
      from (frame.Installed (a.name r h) n) (frame.Installed (b.name s k) n) (ap (λ z. frame.Installed z n) (all.name r s f h k at))

  pub install_follows : (r : R) (s : S) → fits r s → (h : H) (k : K) → stands h k → (from : SiteNo) (g : GroupNo) → b.place s g ≡ Some k →
      (n : ℕ) (members : Membership) (request : ℕ) (cut : CountList) (tail : Tail) → is_members members ≡ true →
      fits (on_install a r h from n members request cut tail) (on_install b s k from n members request cut tail)
  install_follows r s f h k at from g there n members request cut tail typed =
      choose fits (is_from_home a r from) (is_from_home b s from) _ r _ s (from_home_same a b fits stands all r s f from)
      (λ _. by_verdict (verdict_of (a.group r h) n) (verdict_of (b.group s k) n)
      (ap (λ (x : MemberSide). verdict_of x n) (all.follows.group r s f h k at)) refl)
      (λ _. f)
    where
      alike : (v : Verdict) → verdict_of (b.group s k) n ≡ v →
          fits (by_verdict_of a r h from n members request cut tail v) (by_verdict_of b s k from n members request cut tail v)
      alike Again is =
          send_as a b fits stands all r s f from (frame.Installed (a.name r h) n) (frame.Installed (b.name s k) n)
          (ap (λ z. frame.Installed z n) (all.name r s f h k at))
      alike Skips is = install_view_follows true r s f h k at from g there n members request cut typed (skips_later (b.group s k) n is)
      alike Completes is =
          install_view_follows false r s f h k at from g there n members request cut typed (completes_later (b.group s k) n is)
      alike Pends is =
          all.pend r s f h k at (record { members = members; request = request; cut = cut })
          tail (record { first = pends_first (b.group s k) n is; typed = typed })
      alike Ignored is = f

      by_verdict : (u v : Verdict) → u ≡ v → verdict_of (b.group s k) n ≡ v →
          fits (by_verdict_of a r h from n members request cut tail u) (by_verdict_of b s k from n members request cut tail v)
      by_verdict u v is at_v =
          subst (λ z. fits (by_verdict_of a r h from n members request cut tail z) (by_verdict_of b s k from n members request cut tail v))
          (sym is) (alike v at_v)

  pub out_follows : (r : R) (s : S) → fits r s → (h : H) (k : K) → stands h k → (g : GroupNo) → b.place s g ≡ Some k → (n : ℕ) →
      fits (on_out a r h n) (on_out b s k n)
  out_follows r s f h k at g there n =
      choose fits (is_put_out_by (a.group r h) n) (is_put_out_by (b.group s k) n)
      _ r _ s (ap (λ (x : MemberSide). is_put_out_by x n) (all.follows.group r s f h k at))
      (λ is. change_follows true r s f h k at g there n no_members 0 [] refl (put_out_later (b.group s k) n is))
      (λ _. f)
