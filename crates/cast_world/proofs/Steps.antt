-- What holds of all sites and of the network is kept by every move of one site.
use Rattle.std.proofs.Common.{ap, arith, inl, inr, subst, sym, ◌∙◌}
use Rattle.std.proofs.lemmas.Bool.{eq-eqb, eqb-true, false≢true, true≢false}
use Rattle.std.specs.Prelude.{◌+◌, ◌<◌, Bool, Contains, IsTrue, List, [], false, if◌then◌else◌, refl, suc, true, ◌||◌, ℕ, ◌∷◌, ◌≡◌, ◌≤◌}
use Rattle.cast_clock.specs.Times.{view_of}
use Rattle.cast_rules.specs.Effects.{next_message}
use Rattle.cast_rules.specs.Entering.{freezing, passing, pending_install}
use Rattle.cast_rules.specs.History.{history}
use Rattle.cast_rules.specs.Rules.Asking.{is_home}
use Rattle.cast_rules.specs.State.{State, emit, local, noting_sent, outside, receiving, releasing}
use Rattle.cast_rules.specs.State.{set_group, set_home, set_session, set_standing, with_delivery}
use Rattle.cast_rules.specs.Step.{opening_next}
use Rattle.cast_message.specs.Membership.{Membership}
use Rattle.cast_message.specs.declared.message.Message.{Message}
use Rattle.cast_message.specs.declared.site.SiteFrame.{SiteFrame}
use Rattle.cast_types.specs.Counts.{CountList, is_within}
use Rattle.cast_types.specs.Names.{group_eq, proc_eq, site_eq}
use Rattle.cast_types.specs.Sets.{is_among, set_at}
use Rattle.cast_types.specs.declared.names.GroupNo.{GroupNo}
use Rattle.cast_types.specs.declared.names.SiteNo.{SiteNo}
use Rattle.cast_types.specs.declared.names.Standing.TheVariants.{Joining}
use Rattle.cast_view.specs.Home.{Home, HomeMove, after_ask, after_body, after_installed, after_report}
use Rattle.cast_view.specs.Home.{after_start, after_suspicion, answer_of, decide_view, may_decide, apply_move}
use Rattle.cast_view.specs.Home.HomeMove.{Asked, Brought, Decided, Installed, Reported, Started, Suspected}
use Rattle.cast_view.specs.MemberSide.{frozen_side, with_answer, with_pending, with_request}
use Rattle.cast_world.proofs.Homes.{HomeFollows, brought_follows, left_follows, reported_follows}
use Rattle.cast_world.proofs.Homes.{request_follows, started_follows, suspicion_follows}
use Rattle.cast_world.proofs.Invariants.{Ahead, IsDecided, IsSound, Later, SiteHolds, Sites, TakesIn}
use Rattle.cast_world.proofs.Kept.{Comes, Kept, KeptByTelling, MayMove, completes, ends, installs, skips}
use Rattle.cast_world.proofs.Laters.{later_same, site_later, sound_later}
use Rattle.cast_world.proofs.Moves.{delivered_site, emits_site, join_site, later_delivered, later_group}
use Rattle.cast_world.proofs.Moves.{later_home, later_join, later_part, later_passing, later_sent, opened_site}
use Rattle.cast_world.proofs.Moves.{part_site, received_site, releases_site, sent_site, session_site}
use Rattle.cast_world.proofs.Ones.{further}
use Rattle.cast_world.proofs.Views.{IsNext, answer_site, cut_delivered, decide_site, follow_site}
use Rattle.cast_world.proofs.Views.{freeze_site, passing_site, pend_site, request_site}
use Rattle.cast_world.specs.Network.{Network}
use Rattle.cast_world.specs.declared.step.Packet.{Packet}
use Rattle.cast_message.specs.declared.site.SiteFrame.TheVariants as frame

-- the states of all sites and the frames on the network
pub record AllHold (home : SiteNo) (w : Network) : Type 0 where
  pub sites : (s : SiteNo) → SiteHolds w.at home s (w.at s)
  pub packets : (p : Packet) → Contains w.sent p → IsSound w.at home p.from p.to p.frame

pub same_site : (a s : SiteNo) → site_eq a s ≡ true → a ≡ s
same_site a s e = ap (λ n. record { 0 = n }) (eqb-true a.0 s.0 e)

pub group_among : (groups : List GroupNo) (g : GroupNo) → is_among group_eq g groups ≡ true → Contains groups g
group_among [] g e = absurd (false≢true e)
group_among (h ∷ groups) g e = go (group_eq g h) refl (group_among groups g)
  where
    go : (b : Bool) → group_eq g h ≡ b → (is_among group_eq g groups ≡ true → Contains groups g) → Contains (h ∷ groups) g
    go true same more = (0, omega arith, ap (λ n. record { 0 = n }) (sym (eqb-true g.0 h.0 same)))
    go false other more =
        let later = more (sym (ap (λ b. b || is_among group_eq g groups) other) ∙ e) in
        (suc later.0, omega (arith, later.1), later.2)

-- one site moves
module _ (home : SiteNo) (w : Network) (a : SiteNo) where
  abbrev pub sites_at : State → Sites
  sites_at t = set_at site_eq w.at a t

  pub own_is : (t : State) → sites_at t a ≡ t
  own_is t = ap (λ b. if b then t else w.at a) (eq-eqb a.0 a.0 refl)

  abbrev pub Arrived : SiteNo → SiteFrame → Type 0
  Arrived from f = Contains w.sent (record { from = from; to = a; frame = f })

  -- what holds at a moment within the step
  abbrev pub Now : State → Type 0
  Now t =
      ((s : SiteNo) → SiteHolds (sites_at t) home s (sites_at t s))
      × ((p : Packet) → Contains w.sent p → IsSound (sites_at t) home p.from p.to p.frame)

  pub ahead_at : (t u : State) → Later t u → Ahead (sites_at t) (sites_at u)
  ahead_at t u later s = go (site_eq a s)
    where
      go : (b : Bool) → Later (if b then t else w.at s) (if b then u else w.at s)
      go true = later
      go false = later_same (w.at s)

  pub own_holds : (t : State) → Now t → SiteHolds (sites_at t) home a t
  own_holds t now = subst (SiteHolds (sites_at t) home a) (own_is t) (now.0 a)

  move : (t u : State) → Later t u →
      (SiteHolds (sites_at u) home a t → sites_at u a ≡ u →
      ((from : SiteNo) (f : SiteFrame) → Arrived from f → IsSound (sites_at u) home from a f) → SiteHolds (sites_at u) home a u) →
      Now t → Now u
  move t u later site now =
      ((λ s. go s (site_eq a s) refl (now.0 s)), λ p c. sound_later (sites_at t) (sites_at u) home ahead p.from p.to p.frame (now.1 p c))
    where
      ahead : Ahead (sites_at t) (sites_at u)
      ahead = ahead_at t u later

      sound : (from : SiteNo) (f : SiteFrame) → Arrived from f → IsSound (sites_at u) home from a f
      sound from f c =
          sound_later (sites_at t) (sites_at u) home (ahead_at t u later) from a f (now.1 (record { from = from; to = a; frame = f }) c)

      go : (s : SiteNo) (b : Bool) → site_eq a s ≡ b → SiteHolds (sites_at t) home s (if b then t else w.at s) →
          SiteHolds (sites_at u) home s (if b then u else w.at s)
      go s true e x = subst (λ z. SiteHolds (sites_at u) home z u) (same_site a s e)
          (site (site_later (sites_at t) (sites_at u) home (ahead_at t u later)
          a t (subst (λ z. SiteHolds (sites_at t) home z t) (sym (same_site a s e)) x)) (own_is u)
          (λ from f c.
          sound_later (sites_at t) (sites_at u) home (ahead_at t u later) from a f (now.1 (record { from = from; to = a; frame = f }) c)))
      go s false e x = site_later (sites_at t) (sites_at u) home (ahead_at t u later) s (w.at s) x

  -- this site is the home, or is not
  pub at_home : (t : State) → Now t → is_home history t ≡ site_eq a home
  at_home t now = let x = own_holds t now in λ i. site_eq (x.here_is i) (x.home_is i)

  -- what is known of the next view, where a site comes to pass to it
  pub next_of : (t : State) → Now t → (u : State) → Later t u →
      (g : GroupNo) (skipped : Bool) (n : ℕ) (members : Membership) (request : ℕ) (cut : CountList) →
      Comes Arrived t g skipped n members request cut → IsNext (sites_at u) home t g skipped n members request cut
  next_of t now u later g skipped n members request cut (completes p e all no_skip n_is members_is request_is cut_is) =
      let x = own_holds t now in
      let pend = (x.groups g).pending p e in
      record {
        decided = subst (λ v. IsDecided (sites_at u) home g v) (sym n_is)
            (further (sites_at t) (sites_at u) home g ((t.group g).number + 1) (ahead_at t u later) pend.0);
        above = λ k number heard is le among. subst (λ v. heard < v) (sym n_is)
            ((subst (λ (y : State). TakesIn y.process y.group g p.request ((t.group g).number + 1)) (own_is t) pend.1).above k number heard
            is (subst (λ r. number ≤ r) request_is le));
        cuts = λ k member _. (
          n_is,
          λ en counted within. cut_delivered (sites_at t) home a t x g p.cut all k member en counted
              (subst (λ (c : CountList). IsTrue (is_within c en)) cut_is within),
        );
      }
  next_of t now u later g skipped n members request cut (installs from tail came none no_skip up) =
      let x = own_holds t now in
      let sound = now.1 (record { from = from; to = a; frame = frame.Install g n members request cut tail }) came in
      record {
        decided = further (sites_at t) (sites_at u) home g n (ahead_at t u later) sound.0;
        above = λ k number heard is le among.
            (subst (λ (y : State). TakesIn y.process y.group g request n) (own_is t) sound.1).above k number heard is le;
        cuts = λ k member _. absurd (true≢false (sym ((x.ones k).member g member).1 ∙ none));
      }
  next_of t now u later g skipped n members request cut (skips from tail came skip up) =
      let sound = now.1 (record { from = from; to = a; frame = frame.Install g n members request cut tail }) came in
      record {
        decided = further (sites_at t) (sites_at u) home g n (ahead_at t u later) sound.0;
        above = λ k number heard is le among.
            (subst (λ (y : State). TakesIn y.process y.group g request n) (own_is t) sound.1).above k number heard is le;
        cuts = λ k member no_skip. absurd (true≢false (sym skip ∙ no_skip));
      }
  next_of t now u later g skipped n members request cut (ends from came skip up members_is) =
      record {
        decided = further (sites_at t) (sites_at u) home g n (ahead_at t u later)
            (now.1 (record { from = from; to = a; frame = frame.Out g n }) came);
        above = λ k number heard is le among.
            absurd (false≢true (subst (λ (m : Membership). is_among proc_eq (local t k) m.list ≡ true) members_is among));
        cuts = λ k member no_skip. absurd (true≢false (sym skip ∙ no_skip));
      }

  telling_kept : KeptByTelling Now
  telling_kept = record {
    emits = λ t to f now says.
        move t (emit t to f) (later_same t) (λ x own sound. emits_site (sites_at (emit t to f)) home a t x to f says) now;
    books = λ t quotas moment acks told owed casts pushes now.
        move t (record t { quotas = quotas; moment = moment; acks = acks; told = told; owed = owed; casts = casts; pushes = pushes })
        (later_same t) (λ x own sound. x) now;
    releases = λ t passes now.
        move t (releasing t passes) (later_same t) (λ x own sound. releases_site (sites_at (releasing t passes)) home a t x passes) now;
    sets_session = λ t k v now same.
        move t (set_session t k v) (later_same t) (λ x own sound. session_site (sites_at (set_session t k v)) home a t x k v same) now;
    parts = λ t k g now. move t (outside t k g) (later_part t k g) (λ x own sound. part_site (sites_at (outside t k g)) home a t x k g) now;
    requests = λ t g what p now.
        let u : State = set_group t g (with_request (t.group g) what p) in
        move t u (later_group t g (with_request (t.group g) what p) (omega arith))
        (λ x own sound. request_site (sites_at u) home a t x g what p own) now;
  }

  -- a home that moves on without a decision
  follows_kept : (t : State) (g : GroupNo) (h : Home) → Now t → HomeFollows Arrived g (t.home g) h → Now (set_home t g h)
  follows_kept t g h now f =
      move t (set_home t g h) (later_home t g h (let same = f.number in omega (arith, same)))
      (λ x own sound. follow_site (sites_at (set_home t g h)) home a t x g Arrived sound h f) now

  decides_kept : (t : State) (g : GroupNo) → Now t → is_home history t ≡ true → may_decide g (t.home g) ≡ true →
      Now (set_home t g (decide_view (t.home g)))
  decides_kept t g now here may = move t (set_home t g (decide_view (t.home g))) later
      (λ x own sound. decide_site (sites_at (set_home t g (decide_view (t.home g)))) home a t x g
      (subst (λ z. sites_at (set_home t g (decide_view (t.home g))) z ≡ set_home t g (decide_view (t.home g)))
      (same_site a home (sym (at_home t now) ∙ here)) own)
      (λ to. (ahead_at t (set_home t g (decide_view (t.home g))) later to).takes g (answer_of (t.home g) to).number ((t.home g).number + 1)
      (taken to)) may) now
    where
      later : Later t (set_home t g (decide_view (t.home g)))
      later = later_home t g (decide_view (t.home g)) (omega arith)

      taken : (to : SiteNo) →
          TakesIn (sites_at t to).process (sites_at t to).group g (answer_of (t.home g) to).number ((t.home g).number + 1)
      taken to = record {
        asked = ((own_holds t now).homes g).applied to;
        above = λ k number heard is le.
            let known : heard ≤ ((sites_at t home).home g).number = ((now.0 to).ones k).heard g number heard is in
            let same : ((sites_at t home).home g).number ≡ (t.home g).number =
            ap (λ (y : State). (y.home g).number)
            (subst (λ z. sites_at t z ≡ t) (same_site a home (sym (at_home t now) ∙ here)) (own_is t)) in
            omega (arith, known, same);
      }

  homes_kept : (t : State) (g : GroupNo) (what : HomeMove) → Now t → MayMove Arrived t g what →
      Now (set_home t g (apply_move what (t.home g)))
  homes_kept t g (Asked from number what p) now may =
      follows_kept t g (after_ask (t.home g) from number what p) now (request_follows Arrived g (t.home g) from number what p may)
  homes_kept t g (Suspected site) now may =
      follows_kept t g (after_suspicion (t.home g) site) now (suspicion_follows Arrived g (t.home g) site)
  homes_kept t g Started now may = follows_kept t g (after_start (t.home g)) now (started_follows Arrived g (t.home g))
  homes_kept t g (Reported from view r) now may =
      follows_kept t g (after_report (t.home g) from view r) now (reported_follows Arrived g (t.home g) from view r may)
  homes_kept t g (Brought m) now may = follows_kept t g (after_body (t.home g) m) now (brought_follows Arrived g (t.home g) may.0 m may.1)
  homes_kept t g Decided now may = decides_kept t g now may.0 may.1
  homes_kept t g (Installed from view) now may =
      follows_kept t g (after_installed (t.home g) from view) now (left_follows Arrived g (t.home g) from view)

  pub kept_now : Kept Now Arrived (site_eq a home)
  kept_now = record {
    telling = telling_kept;
    fixed = at_home;
    opens = λ t now. move t (opening_next t) (later_same t) (λ x own sound. opened_site (sites_at (opening_next t)) home a t x) now;
    answers = λ t g now.
        let u : State = set_group t g (with_answer (t.group g)) in
        move t u (later_group t g (with_answer (t.group g)) (omega arith)) (λ x own sound. answer_site (sites_at u) home a t x g) now;
    joins = λ t k g now open_it known out.
        let u : State = set_standing t k g (Joining ((t.group g).asked + 1) (view_of (t.process k).time g)) in
        move t u (later_join t k g (view_of (t.process k).time g)) (λ x own sound.
        join_site (sites_at u) home a t x k g ((t.group g).asked + 1) open_it (group_among t.config.groups g known) out) now;
    sends = λ t g k content now member may.
        let m : Message = next_message t g k content in
        let u : State = receiving (noting_sent t k m) m in
        move t u (later_sent t k m) (λ x own sound. sent_site (sites_at u) home a t x g k content own member) now;
    receives = λ t from m now came view member.
        let u : State = receiving t m in
        move t u (later_same t) (λ x own sound. received_site (sites_at u)
        home a t x m (elim came [ inl c ↦ sound from (frame.Data m) c | inr c ↦ sound from (frame.Forward m) c ])) now;
    delivers = λ t k m now c ready. move t (with_delivery t k m) (later_delivered t k m)
        (λ x own sound. delivered_site (sites_at (with_delivery t k m)) home a t x k m c ready) now;
    freezes = λ t g now current. move t (freezing t g) (later_group t g (frozen_side (t.group g)) (omega arith))
        (λ x own sound. freeze_site (sites_at (freezing t g)) home a t x g) now;
    pends = λ t from g p tail now came current.
        let u : State = pending_install t g p tail in
        move t u (later_group t g (with_pending (t.group g) p) (omega arith))
        (λ x own sound.
        let f = sound from (frame.Install g ((t.group g).number + 1) p.members p.request p.cut tail) came in
        pend_site (sites_at u) home a t x g p tail f.0 f.1) now;
    passes = λ t g skipped n members request cut now comes.
        let u : State = passing t g skipped n members request cut in
        let later : Later t u = later_passing t g skipped n members request cut in
        move t u later (λ x own sound. passing_site (sites_at u) home a t g skipped n members request cut
        (next_of t now u later g skipped n members request cut comes) x) now;
    homes = homes_kept;
  }
