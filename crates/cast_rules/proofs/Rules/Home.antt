-- By the rules of the home a site that follows another goes on standing for it.
use Rattle.std.proofs.Common.{◌≡◌, ℕ, Bool, true, false, not, ◌&&◌, List, [], ◌∷◌, Option, Some, None, refl, sym, ap, subst}
use Rattle.std.specs.Prelude.{◌==◌, if◌then◌else◌}
use Rattle.std.specs.List.{fold, find, list_all}
use Rattle.std.specs.Option.{option_or, option_map_or}
use Rattle.cast_types.specs.declared.names.Uid.{Uid}
use Rattle.cast_message.specs.declared.site.SiteFrame.TheVariants as frame
use Rattle.cast_types.specs.declared.names.SiteNo.{SiteNo}
use Rattle.cast_types.specs.Names.{Entry, site_eq, group_eq, proc_eq, entry_eq, entry_of, uid_eq}
use Rattle.cast_types.specs.Sets.{is_among}
use Rattle.cast_message.specs.declared.message.Message.{Message}
use Rattle.cast_timer.specs.declared.key.OwedKey.{OwedKey}
use Rattle.cast_timer.specs.declared.key.OwedKind.{OwedKind}
use Rattle.cast_timer.specs.declared.key.OwedKind.TheVariants.{Prepare, Install}
use Rattle.cast_flush.specs.declared.report.Report.{Report}
use Rattle.cast_view.specs.declared.phase.Phase.{Phase}
use Rattle.cast_view.specs.Home.{Home, HomeMove, may_start, awaited_of, wants_in, bodies_of}
use Rattle.cast_view.specs.Home.{may_decide, waiting_of, takes_report, takes_installed}
use Rattle.cast_view.specs.Home.HomeMove.{Started, Suspected, Reported, Brought, Decided, Installed}
use Rattle.cast_rules.specs.Rules.Keys.{home_key, want_key}
use Rattle.cast_rules.specs.Rules.Interface.{Site}
use Rattle.cast_rules.specs.Rules.Owing.{owe}
use Rattle.cast_rules.specs.Rules.Asking.{is_home}
use Rattle.cast_rules.specs.Rules.Data.{counts_itself, names_member, is_well_formed}
use Rattle.cast_types.specs.declared.names.GroupNo.{GroupNo}
use Rattle.cast_rules.specs.Rules.Home.{want_eq, owe_of_home, start, wants, want, want_bodies, decide}
use Rattle.cast_rules.specs.Rules.Home.{lead_group, lead, on_installed, on_flushed, drop_want, drop_wants}
use Rattle.cast_rules.specs.Rules.Home.{release_site, suspect_in, suspect, on_forward, forwardable, on_want}
use Rattle.cast_rules.proofs.Rules.Follows.{FollowsAll, choose, each, each_place, IsInvariant}
use Rattle.cast_rules.proofs.Rules.Follows.{IsInvariantOfAll, AlsoHolds, SamePlace, follows_itself_in_all}
use Rattle.cast_rules.proofs.Rules.Owing.{owe_follows, owe_keeps}
use Rattle.cast_rules.proofs.Rules.Asking.{home_same}

module _ {R S H K : Type 0} (a : Site R H) (b : Site S K) (fits : R → S → Type 0) (stands : H → K → Type 0)
    (all : FollowsAll a b fits stands) where
  -- a frame of the home is owed under the same name
  owe_of_home_follows : (kind : OwedKind) (h : H) (k : K) → stands h k → (r : R) (s : S) (to : SiteNo) → fits r s →
      fits (owe_of_home a kind h r to) (owe_of_home b kind k s to)
  owe_of_home_follows kind h k at r s to f =
      let key : OwedKey = home_key kind (b.name s k) to in
      subst (λ g. fits (owe a r (home_key kind g to)) (owe b s key)) (sym (all.name r s f h k at))
      (owe_follows a b fits stands all.follows r s f key)

  -- a move of the home, and then frames of it to the sites that it tells
  moved_then : (kind : OwedKind) (sites : Phase → List SiteNo) (move : HomeMove) (r : R) (s : S) → fits r s → (h : H) (k : K) →
      stands h k → fits (fold (owe_of_home a kind h) (a.move_home r h move) (sites (a.home (a.move_home r h move) h).phase))
      (fold (owe_of_home b kind k) (b.move_home s k move) (sites (b.home (b.move_home s k move) k).phase))
  moved_then kind sites move r s f h k at =
      let next : R = a.move_home r h move in
      let after : S = b.move_home s k move in
      let now : fits next after = all.move_home r s f h k at move in
      subst
      (λ x. fits (fold (owe_of_home a kind h) next (sites x.phase)) (fold (owe_of_home b kind k) after (sites (b.home after k).phase)))
      (sym (all.follows.home next after now h k at))
      (each fits (owe_of_home a kind h) (owe_of_home b kind k) (owe_of_home_follows kind h k at) (sites (b.home after k).phase)
      next after now)

  pub start_follows : (r : R) (s : S) → fits r s → (h : H) (k : K) → stands h k → fits (start a r h) (start b s k)
  start_follows r s f h k at =
      choose fits (may_start (a.home r h)) (may_start (b.home s k)) _ r _ s (ap may_start (all.follows.home r s f h k at))
      (λ _. moved_then Prepare awaited_of Started r s f h k at)
      (λ _. f)

  pub decide_follows : (r : R) (s : S) → fits r s → (h : H) (k : K) → stands h k → fits (decide a r h) (decide b s k)
  decide_follows r s f h k at =
      let name = all.name r s f h k at in
      let home = all.follows.home r s f h k at in
      choose fits (may_decide (a.name r h) (a.home r h)) (may_decide (b.name s k) (b.home s k)) _ r _ s (λ j. may_decide (name j) (home j))
      (λ _. moved_then Install waiting_of Decided r s f h k at)
      (λ _. f)

  want_follows : (h : H) (k : K) → stands h k → (r : R) (s : S) (w : SiteNo × Entry) → fits r s → fits (want a h r w) (want b k s w)
  want_follows h k at r s w f =
      let key : OwedKey = want_key (b.name s k) w in
      subst (λ g. fits (owe a r (want_key g w)) (owe b s key)) (sym (all.name r s f h k at))
      (owe_follows a b fits stands all.follows r s f key)

  wants_same : (r : R) (s : S) → fits r s → (h : H) (k : K) → stands h k → wants a r h ≡ wants b s k
  wants_same r s f h k at =
      let name = all.name r s f h k at in
      let home = all.follows.home r s f h k at in
      λ j. wants_in (name j) (home j) (home j).phase

  pub want_bodies_follows : (r : R) (s : S) → fits r s → (h : H) (k : K) → stands h k → fits (want_bodies a r h) (want_bodies b s k)
  want_bodies_follows r s f h k at =
      subst (λ ws. fits (fold (want a h) r ws) (want_bodies b s k)) (sym (wants_same r s f h k at))
      (each fits (want a h) (want b k) (want_follows h k at) (wants b s k) r s f)

  lead_group_follows : (r : R) (s : S) → fits r s → (h : H) (k : K) → stands h k → fits (lead_group a r h) (lead_group b s k)
  lead_group_follows r s f h k at =
      let wanted : fits (want_bodies a (start a r h) h) (want_bodies b (start b s k) k) =
      want_bodies_follows (start a r h) (start b s k) (start_follows r s f h k at) h k at in
      decide_follows (want_bodies a (start a r h) h) (want_bodies b (start b s k) k) wanted h k at

  pub lead_follows : (r : R) (s : S) → fits r s → fits (lead a r) (lead b s)
  lead_follows r s f =
      choose fits (is_home a r) (is_home b s) (fold (lead_group a) r (a.places r)) r (fold (lead_group b) s (b.places s))
      s (home_same a b fits stands all r s f)
      (λ _. each_place fits stands (lead_group a) (lead_group b) lead_group_follows (a.places r) (b.places s) (all.places r s f) r s f)
      (λ _. f)

  pub installed_follows : (r : R) (s : S) → fits r s → (h : H) (k : K) → stands h k → (from : SiteNo) (n : ℕ) →
      fits (on_installed a r h from n) (on_installed b s k from n)
  installed_follows r s f h k at from n =
      let key : OwedKey = home_key Install (b.name s k) from in
      let home = all.follows.home r s f h k at in
      let here = home_same a b fits stands all r s f in
      choose fits (is_home a r && takes_installed (a.home r h) from n) (is_home b s && takes_installed (b.home s k) from n) _ r _ s
      (λ j. here j && takes_installed (home j) from n)
      (λ _. subst (λ g. fits (a.move_home (a.pay r (home_key Install g from)) h (Installed from n))
      (b.move_home (b.pay s key) k (Installed from n))) (sym (all.name r s f h k at))
      (all.move_home (a.pay r key) (b.pay s key) (all.follows.pay r s f key) h k at (Installed from n)))
      (λ _. f)

  pub flushed_follows : (r : R) (s : S) → fits r s → (h : H) (k : K) → stands h k → (from : SiteNo) (view : ℕ) (report : Report) →
      fits (on_flushed a r h from view report) (on_flushed b s k from view report)
  flushed_follows r s f h k at from view report =
      let key : OwedKey = home_key Prepare (b.name s k) from in
      let home = all.follows.home r s f h k at in
      let here = home_same a b fits stands all r s f in
      choose fits (is_home a r && takes_report (a.home r h) from view) (is_home b s && takes_report (b.home s k) from view) _ r _ s
      (λ j. here j && takes_report (home j) from view)
      (λ _. subst (λ g. fits (a.move_home (a.pay r (home_key Prepare g from)) h (Reported from view report))
      (b.move_home (b.pay s key) k (Reported from view report))) (sym (all.name r s f h k at))
      (all.move_home (a.pay r key) (b.pay s key) (all.follows.pay r s f key) h k at (Reported from view report)))
      (λ _. f)

  drop_follows : (h : H) (k : K) → stands h k → (xs ys : List (SiteNo × Entry)) → xs ≡ ys → (r : R) (s : S) (w : SiteNo × Entry) →
      fits r s → fits (drop_want a h xs r w) (drop_want b k ys s w)
  drop_follows h k at xs ys same r s w f =
      let key : OwedKey = want_key (b.name s k) w in
      choose fits (is_among want_eq w xs) (is_among want_eq w ys) r _ s (b.pay s key) (ap (is_among want_eq w) same)
      (λ _. f)
      (λ _. subst (λ g. fits (a.pay r (want_key g w)) (b.pay s key)) (sym (all.name r s f h k at)) (all.follows.pay r s f key))

  drops_follow : (r : R) (s : S) → fits r s → (h : H) (k : K) → stands h k → (before : List (SiteNo × Entry)) →
      fits (drop_wants a r h before) (drop_wants b s k before)
  drops_follow r s f h k at before =
      each fits (drop_want a h (wants a r h)) (drop_want b k (wants b s k))
      (drop_follows h k at (wants a r h) (wants b s k) (wants_same r s f h k at)) before r s f

  release_follows : (r : R) (s : S) → fits r s → (h : H) (k : K) → stands h k → (site : SiteNo) →
      fits (release_site a r h site) (release_site b s k site)
  release_follows r s f h k at site =
      let g : GroupNo = b.name s k in
      subst (λ x. fits (a.pay (a.pay r (home_key Prepare x site)) (home_key Install x site)) (release_site b s k site))
      (sym (all.name r s f h k at))
      (all.follows.pay (a.pay r (home_key Prepare g site)) (b.pay s (home_key Prepare g site))
      (all.follows.pay r s f (home_key Prepare g site)) (home_key Install g site))

  suspect_in_follows : (site : SiteNo) (r : R) (s : S) → fits r s → (h : H) (k : K) → stands h k →
      fits (suspect_in a site r h) (suspect_in b site s k)
  suspect_in_follows site r s f h k at =
      let freed : R = release_site a r h site in
      let paid : S = release_site b s k site in
      let next : R = a.move_home freed h (Suspected site) in
      let after : S = b.move_home paid k (Suspected site) in
      let now : fits next after = all.move_home freed paid (release_follows r s f h k at site) h k at (Suspected site) in
      subst (λ ws. fits (drop_wants a next h ws) (suspect_in b site s k)) (sym (wants_same r s f h k at))
      (drops_follow next after now h k at (wants b s k))

  pub suspect_follows : (r : R) (s : S) → fits r s → (site : SiteNo) → fits (suspect a r site) (suspect b s site)
  suspect_follows r s f site =
      choose fits (is_home a r) (is_home b s) (fold (suspect_in a site) r (a.places r)) r (fold (suspect_in b site) s (b.places s))
      s (home_same a b fits stands all r s f)
      (λ _. each_place fits stands (suspect_in a site) (suspect_in b site) (suspect_in_follows site) (a.places r) (b.places s)
      (all.places r s f) r s f)
      (λ _. f)

  -- a message is well formed at both sites or at neither
  formed_same : (r : R) (s : S) → fits r s → (x y : Home) → x ≡ y → (m : Message) →
      ((m.id.view == x.number) && is_well_formed a r x.members.list m) ≡ ((m.id.view == y.number) && is_well_formed b s y.members.list m)
  formed_same r s f x y same m =
      let config = all.follows.config r s f in
      λ j. (m.id.view == (same j).number)
      && (list_all (λ c. is_among group_eq c.0 (config j).groups) m.times
      && (is_among proc_eq m.id.proc (same j).members.list
      && (names_member (same j).members.list m.body
      && counts_itself m)))

  pub forward_follows : (r : R) (s : S) → fits r s → (h : H) (k : K) → stands h k → (m : Message) →
      fits (on_forward a r h m) (on_forward b s k m)
  forward_follows r s f h k at m =
      subst (λ ws. fits (elim (find (λ w. entry_eq w.1 (entry_of m.id)) ws) [
        | Some w ↦
            (if (m.id.view == (a.home r h).number) && is_well_formed a r (a.home r h).members.list m
            then a.move_home (a.pay r (want_key (a.name r h) w)) h (Brought m)
            else r)
        | None ↦ r
      ]) (on_forward b s k m))
      (sym (wants_same r s f h k at)) (first (find (λ w. entry_eq w.1 (entry_of m.id)) (wants b s k)))
    where
      first : (o : Option (SiteNo × Entry)) →
          fits (elim o [
            | Some w ↦ (if (m.id.view == (a.home r h).number) && is_well_formed a r (a.home r h).members.list m
                then a.move_home (a.pay r (want_key (a.name r h) w)) h (Brought m)
                else r)
            | None ↦ r
          ])
          (elim o [
            | Some w ↦ (if (m.id.view == (b.home s k).number) && is_well_formed b s (b.home s k).members.list m
                then b.move_home (b.pay s (want_key (b.name s k) w)) k (Brought m)
                else s)
            | None ↦ s
          ])
      first (Some w) =
          let key : OwedKey = want_key (b.name s k) w in
          choose fits _ _ _ r _ s (formed_same r s f (a.home r h) (b.home s k) (all.follows.home r s f h k at) m)
          (λ _. subst (λ g. fits (a.move_home (a.pay r (want_key g w)) h (Brought m)) (b.move_home (b.pay s key) k (Brought m)))
          (sym (all.name r s f h k at))
          (all.move_home (a.pay r key) (b.pay s key) (all.follows.pay r s f key) h k at (Brought m)))
          (λ _. f)
      first None = f

  pub want_answered_follows : (r : R) (s : S) → fits r s → (h : H) (k : K) → stands h k → (from : SiteNo) (u : Uid) →
      fits (on_want a r h from u) (on_want b s k from u)
  want_answered_follows r s f h k at from u =
      let here = all.follows.here r s f in
      let home = home_same a b fits stands all r s f in
      let moved = all.follows.home r s f h k at in
      let found : forwardable a r h u ≡ forwardable b s k u =
      λ j. option_or (find (λ m. uid_eq m.id u) (bodies_of (moved j).phase)) (all.follows.message r s f u j) in
      choose fits (site_eq from (a.here r) && not (is_home a r)) (site_eq from (b.here s) && not (is_home b s)) r _ s _
      (λ j. site_eq from (here j) && not (home j))
      (λ _. f)
      (λ _. subst (λ o. fits (option_map_or (λ m. a.send r from (frame.Forward m)) o r)
      (option_map_or (λ m. b.send s from (frame.Forward m)) (forwardable b s k u) s)) (sym found)
      (sent (forwardable b s k u)))
    where
      sent : (o : Option Message) →
          fits (option_map_or (λ m. a.send r from (frame.Forward m)) o r) (option_map_or (λ m. b.send s from (frame.Forward m)) o s)
      sent (Some m) = all.follows.send r s f from (frame.Forward m)
      sent None = f

-- what holds after each move of what is sent and owed, and of the home, holds after each rule of the home
module _ {S H : Type 0} (d : Site S H) (holds : S → Type 0) (keeps : IsInvariant d holds)
    (moves : (s : S) → holds s → (h : H) (move : HomeMove) → holds (d.move_home s h move)) where
  owed_keeps : (kind : OwedKind) (h : H) (sites : List SiteNo) (s : S) → holds s → holds (fold (owe_of_home d kind h) s sites)
  owed_keeps kind h [] s l = l
  owed_keeps kind h (to ∷ sites) s l =
      owed_keeps kind h sites (owe_of_home d kind h s to) (owe_keeps d holds keeps s l (home_key kind (d.name s h) to))

  either : (c : Bool) (x y : S) → holds x → holds y → holds (if c then x else y)
  either true x y l k = l
  either false x y l k = k

  pub start_keeps : (s : S) → holds s → (h : H) → holds (start d s h)
  start_keeps s l h =
      let t : S = d.move_home s h Started in
      either (may_start (d.home s h)) _ s (owed_keeps Prepare h (awaited_of (d.home t h).phase) t (moves s l h Started)) l

  wanted_keeps : (h : H) (ws : List (SiteNo × Entry)) (s : S) → holds s → holds (fold (want d h) s ws)
  wanted_keeps h [] s l = l
  wanted_keeps h (w ∷ ws) s l = wanted_keeps h ws (want d h s w) (owe_keeps d holds keeps s l (want_key (d.name s h) w))

  pub want_bodies_keeps : (s : S) → holds s → (h : H) → holds (want_bodies d s h)
  want_bodies_keeps s l h = wanted_keeps h (wants d s h) s l

  pub decide_keeps : (s : S) → holds s → (h : H) → holds (decide d s h)
  decide_keeps s l h =
      let t : S = d.move_home s h Decided in
      either (may_decide (d.name s h) (d.home s h)) _ s (owed_keeps Install h (waiting_of (d.home t h).phase) t (moves s l h Decided)) l

  groups_keep : (hs : List H) (s : S) → holds s → holds (fold (lead_group d) s hs)
  groups_keep [] s l = l
  groups_keep (h ∷ hs) s l =
      groups_keep hs (lead_group d s h)
      (decide_keeps (want_bodies d (start d s h) h) (want_bodies_keeps (start d s h) (start_keeps s l h) h) h)

  pub lead_keeps : (s : S) → holds s → holds (lead d s)
  lead_keeps s l = either (is_home d s) _ s (groups_keep (d.places s) s l) l

-- an invariant of all moves holds after a site is suspected
pub suspect_keeps : {S H : Type 0} (d : Site S H) (holds : S → Type 0) → IsInvariantOfAll d holds → (s : S) → holds s → (site : SiteNo) →
    holds (suspect d s site)
suspect_keeps d holds keeps s l site =
    (suspect_follows d d (AlsoHolds holds) SamePlace (follows_itself_in_all d holds keeps) s s (refl, l) site).1
