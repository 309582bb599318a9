-- By the rules of asking the home a site that follows another goes on standing for it.
use Rattle.std.proofs.Common.{◌≡◌, sym, ap, subst}
use Rattle.cast_types.specs.declared.names.SiteNo.{SiteNo}
use Rattle.cast_types.specs.declared.names.Proc.{Proc}
use Rattle.cast_types.specs.Names.{site_eq}
use Rattle.cast_message.specs.declared.site.Change.{Change}
use Rattle.cast_timer.specs.declared.key.OwedKey.{OwedKey}
use Rattle.cast_view.specs.MemberSide.{MemberSide}
use Rattle.cast_view.specs.Home.{is_empty}
use Rattle.cast_rules.specs.Rules.Keys.{ask_key}
use Rattle.cast_rules.specs.Rules.Interface.{Site}
use Rattle.cast_rules.specs.Rules.Owing.{owe}
use Rattle.cast_rules.specs.Rules.Asking.{is_home, is_from_home, ask_home, request}
use Rattle.cast_rules.proofs.Rules.Follows.{FollowsAll, choose}
use Rattle.cast_rules.proofs.Rules.Owing.{owe_follows}

module _ {R S H K : Type 0} (a : Site R H) (b : Site S K) (fits : R → S → Type 0) (stands : H → K → Type 0)
    (all : FollowsAll a b fits stands) where
  pub home_same : (r : R) (s : S) → fits r s → is_home a r ≡ is_home b s
  home_same r s f = λ j. site_eq (all.follows.here r s f j) (all.follows.config r s f j).home

  pub from_home_same : (r : R) (s : S) → fits r s → (from : SiteNo) → is_from_home a r from ≡ is_from_home b s from
  from_home_same r s f from = λ j. site_eq from (all.follows.config r s f j).home

  -- the first request is owed under the same name
  pub key_same : (r : R) (s : S) → fits r s → (h : H) (k : K) → stands h k →
      ask_key (a.name r h) (a.config r).home ≡ ask_key (b.name s k) (b.config s).home
  key_same r s f h k at = λ j. ask_key (all.name r s f h k at j) (all.follows.config r s f j).home

  pub ask_home_follows : (r : R) (s : S) → fits r s → (h : H) (k : K) → stands h k → fits (ask_home a r h) (ask_home b s k)
  ask_home_follows r s f h k at =
      let key : OwedKey = ask_key (b.name s k) (b.config s).home in
      choose fits (is_empty (a.group r h).requests) (is_empty (b.group s k).requests) r (owe a r (ask_key (a.name r h) (a.config r).home))
      s (owe b s key)
      (ap (λ (x : MemberSide). is_empty x.requests) (all.follows.group r s f h k at))
      (λ _. f)
      (λ _. subst (λ x. fits (owe a r x) (owe b s key)) (sym (key_same r s f h k at)) (owe_follows a b fits stands all.follows r s f key))

  pub request_follows : (r : R) (s : S) → fits r s → (h : H) (k : K) → stands h k → (what : Change) (p : Proc) →
      fits (request a r h what p) (request b s k what p)
  request_follows r s f h k at what p =
      let next : R = a.note_request r h what p in
      let after : S = b.note_request s k what p in
      let now : fits next after = all.note_request r s f h k at what p in
      choose fits (is_empty (a.group r h).requests) (is_empty (b.group s k).requests) (ask_home a next h) next (ask_home b after k) after
      (ap (λ (x : MemberSide). is_empty x.requests) (all.follows.group r s f h k at))
      (λ _. ask_home_follows next after now h k at)
      (λ _. now)
