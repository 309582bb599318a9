-- A home keeps what holds of how views end; a decision makes the end of a view.
use Rattle.std.proofs.Common.{ap, arith, inl, inr, subst, sym, ◌∙◌}
use Rattle.std.proofs.lemmas.Bool.{and_parts, eq-eqb, eqb-true, false≢true}
use Rattle.std.proofs.lemmas.List.{append-nil}
use Rattle.std.specs.Prelude.{◌&&◌, ◌+◌, ◌++◌, ◌==◌, Bool, Contains, List, [], false, if◌then◌else◌, refl, true, ℕ, ◌≡◌, ◌≤◌}
use Rattle.cast_flush.specs.Decisions.{order_from}
use Rattle.cast_flush.specs.Reports.{Reports, cut_from}
use Rattle.cast_flush.specs.declared.report.Report.{Report}
use Rattle.cast_rules.specs.State.{State, set_home}
use Rattle.cast_message.specs.Membership.{Membership}
use Rattle.cast_message.specs.declared.message.Message.{Message}
use Rattle.cast_types.specs.Counts.{CountList}
use Rattle.cast_types.specs.Names.{Entry, group_eq, site_cmp}
use Rattle.cast_types.specs.Sets.{with_items}
use Rattle.cast_types.specs.declared.names.GroupNo.{GroupNo}
use Rattle.cast_types.specs.declared.names.Proc.{Proc}
use Rattle.cast_types.specs.declared.names.SiteNo.{SiteNo}
use Rattle.cast_view.specs.Home.{Home, HomeMove, after_ask, after_body, after_installed, after_report, after_start, after_suspicion}
use Rattle.cast_view.specs.Home.{decide_view, decided_list, decided_phase, decision_of, may_decide_in, apply_move}
use Rattle.cast_view.specs.Home.HomeMove.{Asked, Brought, Decided, Installed, Reported, Started, Suspected}
use Rattle.cast_view.specs.Sites.{sites_of}
use Rattle.cast_view.specs.declared.phase.Decision.{Decision}
use Rattle.cast_view.specs.declared.phase.Phase.{Phase}
use Rattle.cast_view.specs.declared.phase.Phase.TheVariants.{Gathering, Idle, Installing}
use Rattle.cast_world.proofs.ClosingDecides.{added_kinds, decided_end, decided_tail, each_begins}
use Rattle.cast_world.proofs.ClosingDecides.{installing_is, longest_is, start_known, start_within}
use Rattle.cast_world.proofs.ClosingMoves.{ClosingNow, came_same, closing_all, closing_same, old_here, own_closing, still_there}
use Rattle.cast_world.proofs.Closings.{Calm, End, EndHolds, Ends, HasReported, HasSaid, Notes}
use Rattle.cast_world.proofs.Closings.{SiteClosing, Stops, abcast_later, end_tail, said_later}
use Rattle.cast_world.proofs.Flush.{Chosen, IsChosen, numbers}
use Rattle.cast_world.proofs.FlushLaters.{Extends}
use Rattle.cast_world.proofs.FlushSteps.{has_reported, no_reports, not_suspected, own_agrees}
use Rattle.cast_world.proofs.Homes.{HomeFollows, brought_follows, left_follows, reported_follows}
use Rattle.cast_world.proofs.Homes.{reports_of, request_follows, started_follows, suspicion_follows}
use Rattle.cast_world.proofs.Invariants.{Sites}
use Rattle.cast_world.proofs.Kept.{MayMove}
use Rattle.cast_world.proofs.Laters.{set_group_all}
use Rattle.cast_world.proofs.Local.{cases_group}
use Rattle.cast_world.proofs.Moves.{later_home}
use Rattle.cast_world.proofs.Ones.{set_here, set_other}
use Rattle.cast_world.proofs.OrderSteps.{begin, flush, moves_up}
use Rattle.cast_world.proofs.Orders.{Apart}
use Rattle.cast_world.proofs.Steps.{Arrived, at_home, own_is, same_site, sites_at}
use Rattle.cast_world.proofs.WindowSteps.{WindowNow, kept_window, no_key}
use Rattle.cast_world.specs.Network.{Network}
use Rattle.cast_message.specs.declared.site.SiteFrame.TheVariants as frame

module _ (home : SiteNo) (w : Network) (a : SiteNo) where
  abbrev at : State → Sites
  at t = sites_at home w a t

  abbrev number : State → GroupNo → ℕ
  number t = numbers (sites_at home w a t) home

  no_stops : (t : State) → Stops t t
  no_stops t g v s = s

  no_notes : (t : State) → Notes t t
  no_notes t k = ([], append-nil (t.abcasts k))

  no_calm : (t : State) → Calm t t
  no_calm t g v k s m c q = (m, c, q, refl)

  -- a home that moves on without a decision
  follows_closing : (t : State) (g : GroupNo) (h : Home) (i : ClosingNow home w a no_key t) (j : WindowNow home w a no_key (set_home t g h))
      (ext : Extends i.0.0.1 (number t) j.0.1 (number (set_home t g h))) → j.0.3 ≡ i.0.0.3 → j.0.4 ≡ i.0.0.4 → j.1 ≡ i.0.1 →
      HomeFollows (Arrived home w a) g (t.home g) h → ClosingNow home w a no_key (set_home t g h)
  follows_closing t g h i j ext order given safe f =
      let u : State = set_home t g h in
      let le : (t.home g).number ≤ h.number = (let same = f.number in omega (arith, same)) in
      closing_same home w a no_key no_key t u (later_home t g h le) i j ext order given safe (no_stops t) (no_notes t) (no_calm t)
      (still_there home w a t u (set_group_all (λ y (z : Home). z.number ≤ (t.home y).number) t.home g h (λ y. omega arith)
      (let same = f.number in omega (arith, same))))
      (λ x. record {
        closes = x.closes;
        begins = x.begins;
        well = x.well;
        reports =
            set_group_all (λ y (z : Home). (q : SiteNo) (r : Report) → Contains (reports_of z.phase) (q, r) →
            HasReported j.0.1 (at u) j.0.3 j.0.4 j.1 q y z.number r.tail r.kept) t.home g h x.reports
            (λ q r c. elim (f.reports q r c) [
              | inl old ↦ subst (λ n. HasReported j.0.1 (at u) j.0.3 j.0.4 j.1 q g n r.tail r.kept) (sym f.number) (x.reports g q r old)
              | inr came ↦ subst (λ n. HasReported j.0.1 (at u) j.0.3 j.0.4 j.1 q g n r.tail r.kept) (sym f.number)
                  (came_same home w a no_key no_key t u (later_home t g h le) i j ext order given safe (no_stops t) (no_notes t) (no_calm t)
                  q (frame.Flushed g (t.home g).number r.counts r.tail r.kept) came)
            ]);
        decision =
            set_group_all (λ y (z : Home). (waiting : List SiteNo) (d : Decision) (bodies : List Message) (view : ℕ) →
            z.phase ≡ Installing waiting d bodies → z.number ≡ view + 1 → d.tail ≡ end_tail (j.0.1 y (view + 1)).cut (i.1 y view))
            t.home g h x.decision (λ waiting d bodies view e is.
            let was = f.installs waiting d bodies e in
            x.decision g was.0 d was.1 view was.2 (sym f.number ∙ is));
        sent = x.sent;
      })

  -- a decision
  module _ (t : State) (g : GroupNo) (i : ClosingNow home w a no_key t) (may : MayMove (Arrived home w a) t g Decided) where
    abbrev h : Home
    h = t.home g

    abbrev u : State
    u = set_home t g (decide_view (t.home g))

    abbrev v : ℕ
    v = (t.home g).number

    abbrev up : (t.home g).number ≤ (decide_view (t.home g)).number
    up = moves_up home w a t g Decided may

    abbrev j : WindowNow home w a no_key u
    j = (kept_window home w a).homes t g Decided i.0 may

    abbrev ext : Extends i.0.0.1 (number t) j.0.1 (number u)
    ext = ((flush home w a t i.0.0).homes t g Decided (begin home w a t i.0.0) may).3

    home_is : a ≡ home
    home_is = same_site a home (sym (at_home home w a t i.0.0.0) ∙ may.0)

    number_t : number t g ≡ v
    number_t = ap (λ (y : State). (y.home g).number) (subst (λ z. at t z ≡ t) home_is (own_is home w a t))

    number_u : number u g ≡ v + 1
    number_u =
        ap (λ (y : State). (y.home g).number) (subst (λ z. at u z ≡ u) home_is (own_is home w a u))
        ∙ ap (λ (y : Home). y.number) (set_here t.home g (decide_view h) g refl)

    number_else : (y : GroupNo) → (g ≡ y → ⊥) → number u y ≡ number t y
    number_else y apart =
        ap (λ (z : State). (z.home y).number) (subst (λ z. at u z ≡ u) home_is (own_is home w a u))
        ∙ ap (λ (z : Home). z.number) (set_other t.home g (decide_view h) y apart)
        ∙ sym (ap (λ (z : State). (z.home y).number) (subst (λ z. at t z ≡ t) home_is (own_is home w a t)))

    abbrev mine : SiteClosing i.0.0.1 (at t) i.0.0.3 i.0.0.4 i.0.1 i.1 a t
    mine = own_closing home w a t i.0.0.1 i.0.0.3 i.0.0.4 i.0.1 i.1 i.2

    abbrev reports : Reports
    reports = reports_of h.phase

    abbrev said : (q : SiteNo) (r : Report) → Contains reports (q, r) → HasReported i.0.0.1 (at t) i.0.0.3 i.0.0.4 i.0.1 q g v r.tail r.kept
    said = mine.reports g

    abbrev cut : CountList
    cut = cut_from h.members.list reports

    abbrev e : End
    e = decided_end i.0.0.1 (at t) i.0.0.3 i.0.0.4 i.0.1 g v reports said cut

    abbrev ends : Ends
    ends y z = if group_eq g y && (z == v) then e else i.1 y z

    ends_here : ends g v ≡ e
    ends_here = λ n. if eq-eqb g.0 g.0 refl n && eq-eqb v v refl n then e else i.1 g v

    ends_same : (y : GroupNo) (z : ℕ) → z + 1 ≤ number t y → ends y z ≡ i.1 y z
    ends_same y z le = go (group_eq g y && (z == v)) refl
      where
        go : (b : Bool) → (group_eq g y && (z == v)) ≡ b → (if b then e else i.1 y z) ≡ i.1 y z
        go true both_are =
            let two = and_parts (group_eq g y) (z == v) both_are in
            let same : number t g ≡ number t y = ap (number t) (ap (λ n. record { 0 = n }) (eqb-true g.0 y.0 two.0)) in
            let is = eqb-true z v two.1 in
            let top = number_t in
            absurd (omega (arith, same, is, top, le))
        go false other = refl

    low : v ≤ number t g
    low = let top = number_t in omega (arith, top)

    lift : (q : SiteNo) (whole : List Entry) → HasSaid i.0.0.1 (at t) i.0.0.3 i.0.0.4 i.0.1 q g v whole →
        HasSaid j.0.1 (at u) j.0.3 j.0.4 j.1 q g v whole
    lift q whole x =
        said_later home w a t u (later_home t g (decide_view h) up) i.0.0.0 i.0.0.1 j.0.1 i.0.0.2 ext i.0.0.3 j.0.3 i.0.0.4 j.0.4 i.0.1 j.1
        (λ y z. omega arith) (λ y z. ([], append-nil (i.0.0.3 y z))) (λ y z. inl (refl, refl)) (no_stops t) (no_notes t) (no_calm t)
        q g v whole low x

    abbrev whole : List Entry
    whole = (longest_is i.0.0.1 (at t) i.0.0.3 i.0.0.4 i.0.1 g v reports said cut).whole

    -- who is in both views is at a site that reported
    covered_by : (q : Proc) → IsChosen j.0.1 g v q → IsChosen j.0.1 g (v + 1) q → (r : Report) × Contains reports (q.site, r)
    covered_by q before after =
        let y = own_agrees home w a t i.0.0.1 i.0.0.2 in
        let z = own_agrees home w a u j.0.1 j.0.2 in
        let member : Contains h.members.list q =
        subst (λ (x : Membership). Contains x.list q) (sym (y.homes g).members)
        (subst (λ (c : Chosen). Contains c.members.list q) ((ext g).1 v low) before) in
        let made : decide_view h ≡ u.home g = sym (set_here t.home g (decide_view h) g refl) in
        let listed : Contains (decided_list h) q =
        subst (λ (x : Home). Contains x.members.list q) (sym made) (subst (λ (x : Membership). Contains x.list q) (sym (z.homes g).members)
        (subst (λ n. IsChosen j.0.1 g n q) (ap (λ (x : Home). x.number) made) after)) in
        has_reported g h h.phase may.1 (y.homes g).awaits q member (not_suspected h q listed)

    new_end : EndHolds j.0.1 (at u) j.0.3 j.0.4 j.1 g v e
    new_end = record {
      low = start_within i.0.0.1 (at t) i.0.0.3 i.0.0.4 i.0.1 g v reports said cut;
      known = start_known i.0.0.1 (at t) i.0.0.3 i.0.0.4 i.0.1 g v reports said cut;
      apart = elim (longest_is i.0.0.1 (at t) i.0.0.3 i.0.0.4 i.0.1 g v reports said cut).side [
        | inl none ↦
            subst Apart (sym none) tt
        | inr s ↦ s.1.apart
      ];
      side = elim (longest_is i.0.0.1 (at t) i.0.0.3 i.0.0.4 i.0.1 g v reports said cut).side [
        | inl none ↦ inl (i.0.0.3 g v, ap (λ l. l ++ i.0.0.3 g v) none)
        | inr s ↦ (let x = lift s.0 whole s.1 in elim x.side [ inl p ↦ inl p | inr b ↦ inr (s.0, x.stopped, b) ])
      ];
      kinds = λ z c. elim c [
        | inl one ↦ elim (longest_is i.0.0.1 (at t) i.0.0.3 i.0.0.4 i.0.1 g v reports said cut).side [
          | inl none ↦ absurd (let no = subst (λ l. Contains l z) none one in omega (arith, no.1))
          | inr s ↦ (lift s.0 whole s.1).kinds z one
        ]
        | inr two ↦
            abcast_later home w a t u (later_home t g (decide_view h) up)
            i.0.0.0 i.0.0.1 j.0.1 i.0.0.2 ext i.0.0.3 j.0.3 i.0.0.4 j.0.4 i.0.1 j.1 (λ y n. omega arith)
            (λ y n. ([], append-nil (i.0.0.3 y n))) (λ y n. inl (refl, refl)) (no_stops t) (no_notes t) (no_calm t) g v z
            (added_kinds i.0.0.1 (at t) i.0.0.3 i.0.0.4 i.0.1 g v reports said cut z two)
      ];
      covered = λ q before after.
          let r = covered_by q before after in (
            (said q.site r.0 r.1).0,
            lift q.site (said q.site r.0 r.1).0 (said q.site r.0 r.1).1,
            each_begins i.0.0.1 (at t) i.0.0.3 i.0.0.4 i.0.1 g v reports said cut q.site r.0 r.1,
          );
    }

    -- the decision goes with that end
    decision_is : (p : Phase) → h.phase ≡ p → may_decide_in g h p ≡ true → (waiting : List SiteNo) (d : Decision) (bodies : List Message) →
        decided_phase h (decided_list h) p ≡ Installing waiting d bodies →
        (d.cut ≡ cut) × (d.tail ≡ order_from cut reports)
    decision_is Idle is may_in waiting d bodies same = absurd (false≢true may_in)
    decision_is (Gathering awaited rs more) is may_in waiting d bodies same =
        let one = installing_is (with_items site_cmp (sites_of (decided_list h)) awaited) (decision_of h rs) more waiting d bodies same in
        let known : rs ≡ reports = sym (ap reports_of is) in (
          ap (λ (x : Decision). x.cut) one ∙ ap (cut_from h.members.list) known,
          ap (λ (x : Decision). x.tail) one ∙ ap (λ l. order_from (cut_from h.members.list l) l) known,
        )
    decision_is (Installing left c more) is may_in waiting d bodies same = absurd (false≢true may_in)

    new_decision : (waiting : List SiteNo) (d : Decision) (bodies : List Message) (view : ℕ) →
        (decide_view h).phase ≡ Installing waiting d bodies → (decide_view h).number ≡ view + 1 →
        d.tail ≡ end_tail (j.0.1 g (view + 1)).cut (ends g view)
    new_decision waiting d bodies view same is =
        let two = decision_is h.phase refl may.1 waiting d bodies same in
        let made : u.home g ≡ decide_view h = set_here t.home g (decide_view h) g refl in
        let chosen : d.cut ≡ (j.0.1 g (v + 1)).cut =
        ((own_agrees home w a u j.0.1 j.0.2).homes g).decision waiting d bodies (ap (λ (x : Home). x.phase) made ∙ same)
        ∙ ap (λ (x : Home). (j.0.1 g x.number).cut) made in
        let at_v : v ≡ view = omega (arith, is) in
        subst (λ n. d.tail ≡ end_tail (j.0.1 g (n + 1)).cut (ends g n)) at_v
        (two.1
        ∙ decided_tail i.0.0.1 (at t) i.0.0.3 i.0.0.4 i.0.1 g v reports said cut
        ∙ (λ n. end_tail ((sym two.0 ∙ chosen) n) (sym ends_here n)))

    pub decides_closing : ClosingNow home w a no_key u
    decides_closing = (
      j,
      ends,
      closing_all home w a no_key no_key t u (later_home t g (decide_view h) up) i j ext (λ y z. omega arith)
          (λ y z. ([], append-nil (i.0.0.3 y z))) (λ y z. inl (refl, refl)) (no_stops t) (no_notes t) (no_calm t) ends ends_same
          (let x =
          old_here home w a no_key no_key t u (later_home t g (decide_view h) up) i j ext (λ y z. omega arith)
          (λ y z. ([], append-nil (i.0.0.3 y z))) (λ y z. inl (refl, refl)) (no_stops t) (no_notes t) (no_calm t) ends ends_same in
          record {
            closes = x.closes;
            begins = x.begins;
            well = x.well;
            reports =
                set_group_all (λ y (z : Home). (q : SiteNo) (r : Report) → Contains (reports_of z.phase) (q, r) →
                HasReported j.0.1 (at u) j.0.3 j.0.4 j.1 q y z.number r.tail r.kept) t.home g (decide_view h) x.reports
                (λ q r c. absurd (no_reports home w a t g may.0 may.1 i.0.0.0 i.0.0.1 i.0.0.2 h.phase may.1 q r c));
            decision =
                set_group_all (λ y (z : Home). (waiting : List SiteNo) (d : Decision) (bodies : List Message) (view : ℕ) →
                z.phase ≡ Installing waiting d bodies → z.number ≡ view + 1 → d.tail ≡ end_tail (j.0.1 y (view + 1)).cut (ends y view))
                t.home g (decide_view h) x.decision new_decision;
            sent = x.sent;
          })
          (λ y z new_one le. elim (cases_group g y) [
            | inr apart ↦ absurd (let same = number_else y apart in omega (arith, same, new_one, le))
            | inl same ↦
                let top : number t y ≡ v = sym (ap (number t) same) ∙ number_t in
                let high : number u y ≡ v + 1 = sym (ap (number u) same) ∙ number_u in
                let is : v ≡ z = omega (arith, top, high, new_one, le) in
                subst (λ x. EndHolds j.0.1 (at u) j.0.3 j.0.4 j.1 x z (ends x z)) same
                (subst (λ n. EndHolds j.0.1 (at u) j.0.3 j.0.4 j.1 g n (ends g n))
                is (subst (EndHolds j.0.1 (at u) j.0.3 j.0.4 j.1 g v) (sym ends_here) new_end))
          ]),
    )

  pub homes_closing : (t : State) (g : GroupNo) (what : HomeMove) → ClosingNow home w a no_key t → MayMove (Arrived home w a) t g what →
      ClosingNow home w a no_key (set_home t g (apply_move what (t.home g)))
  homes_closing t g (Asked from k what p) i may =
      follows_closing t g (after_ask (t.home g) from k what p) i ((kept_window home w a).homes t g (Asked from k what p) i.0 may)
      ((flush home w a t i.0.0).homes t g (Asked from k what p) (begin home w a t i.0.0) may).3 refl refl refl
      (request_follows (Arrived home w a) g (t.home g) from k what p may)
  homes_closing t g (Suspected site) i may =
      follows_closing t g (after_suspicion (t.home g) site) i ((kept_window home w a).homes t g (Suspected site) i.0 may)
      ((flush home w a t i.0.0).homes t g (Suspected site) (begin home w a t i.0.0) may).3 refl refl refl
      (suspicion_follows (Arrived home w a) g (t.home g) site)
  homes_closing t g Started i may =
      follows_closing t g (after_start (t.home g)) i ((kept_window home w a).homes t g Started i.0 may)
      ((flush home w a t i.0.0).homes t g Started (begin home w a t i.0.0) may).3 refl refl refl
      (started_follows (Arrived home w a) g (t.home g))
  homes_closing t g (Reported from view r) i may =
      follows_closing t g (after_report (t.home g) from view r) i ((kept_window home w a).homes t g (Reported from view r) i.0 may)
      ((flush home w a t i.0.0).homes t g (Reported from view r) (begin home w a t i.0.0) may).3 refl refl refl
      (reported_follows (Arrived home w a) g (t.home g) from view r may)
  homes_closing t g (Brought m) i may =
      follows_closing t g (after_body (t.home g) m) i ((kept_window home w a).homes t g (Brought m) i.0 may)
      ((flush home w a t i.0.0).homes t g (Brought m) (begin home w a t i.0.0) may).3 refl refl refl
      (brought_follows (Arrived home w a) g (t.home g) may.0 m may.1)
  homes_closing t g Decided i may = decides_closing t g i may
  homes_closing t g (Installed from view) i may =
      follows_closing t g (after_installed (t.home g) from view) i ((kept_window home w a).homes t g (Installed from view) i.0 may)
      ((flush home w a t i.0.0).homes t g (Installed from view) (begin home w a t i.0.0) may).3 refl refl refl
      (left_follows (Arrived home w a) g (t.home g) from view)
