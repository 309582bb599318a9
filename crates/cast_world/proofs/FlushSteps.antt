-- What holds of flushes is kept by every step of every run.
-- The claim is `kept_flush`. `Flushing` holds of a network for some choice of members and a cut
-- for each view: each site and each frame agrees with it, and each view that ended is covered. A
-- move that decides nothing keeps the choice (`flush_move`). A decision adds one view to it
-- (`decides_flush`), with the cut that the reports give: each member at a site that is not
-- suspected has reported (`has_reported`).
use Rattle.std.proofs.Common.{ap, arith, inl, inr, subst, sym, ◌∙◌}
use Rattle.std.proofs.lemmas.Bool.{and_parts, cases_lt, eq-eqb, eqb-true, false≢true, true≢false}
use Rattle.std.proofs.lemmas.List.Elements.{Contains-append_cases}
use Rattle.std.specs.List.{list_any}
use Rattle.std.specs.Prelude.{◌&&◌, ◌+◌, ◌<◌, ◌==◌, Bool, Contains, IsTrue, List, None, Option, Some, [], false}
use Rattle.std.specs.Prelude.{filter, if◌then◌else◌, is_some, not, refl, suc, true, unwrap_or, ◌||◌, ℕ, ◌∷◌, ◌≡◌, ◌≤◌}
use Rattle.cast_clock.specs.Times.{view_of}
use Rattle.cast_flush.specs.Reports.{cut_from, has_report, is_complete}
use Rattle.cast_flush.specs.declared.report.Report.{Report}
use Rattle.cast_rules.specs.Acts.Act.{Entered}
use Rattle.cast_rules.specs.Effects.{next_message}
use Rattle.cast_rules.specs.Entering.{enters, freezing, is_put_out, passing, pending_install, putting_out}
use Rattle.cast_rules.specs.History.{history}
use Rattle.cast_rules.specs.Rules.Asking.{is_home}
use Rattle.cast_rules.specs.State.{State, emit, local, noting_sent, outside, receiving, releasing}
use Rattle.cast_rules.specs.State.{set_group, set_home, set_session, set_standing, with_delivery}
use Rattle.cast_rules.specs.Step.{opening_next}
use Rattle.cast_message.specs.Membership.{Membership}
use Rattle.cast_message.specs.Tail.{Tail}
use Rattle.cast_message.specs.declared.message.Message.{Message}
use Rattle.cast_message.specs.declared.site.SiteFrame.{SiteFrame}
use Rattle.cast_types.specs.Counts.{CountList, is_within}
use Rattle.cast_types.specs.Names.{entry_of, group_eq, proc_cmp, proc_eq, site_cmp, site_eq}
use Rattle.cast_types.specs.Sets.{is_among, with_items}
use Rattle.cast_types.specs.declared.names.GroupNo.{GroupNo}
use Rattle.cast_types.specs.declared.names.Proc.{Proc}
use Rattle.cast_types.specs.declared.names.SiteNo.{SiteNo}
use Rattle.cast_types.specs.declared.names.Standing.TheVariants.{Joining}
use Rattle.cast_view.specs.Home.{Home, HomeMove, after_ask, after_body, after_installed, after_report, after_start}
use Rattle.cast_view.specs.Home.{after_suspicion, decide_view, decided_list, decided_members, decided_phase}
use Rattle.cast_view.specs.Home.{decision_of, installing, is_suspected, may_decide, may_decide_in, apply_move, stays}
use Rattle.cast_view.specs.Home.HomeMove.{Asked, Brought, Decided, Installed, Reported, Started, Suspected}
use Rattle.cast_view.specs.MemberSide.{MemberSide, frozen_side, is_taken_in, with_answer, with_pending, with_request}
use Rattle.cast_view.specs.Sites.{is_at, local_view, sites_of}
use Rattle.cast_view.specs.declared.member.Pending.{Pending}
use Rattle.cast_view.specs.declared.phase.Decision.{Decision}
use Rattle.cast_view.specs.declared.phase.Phase.{Phase}
use Rattle.cast_view.specs.declared.phase.Phase.TheVariants.{Gathering, Idle, Installing}
use Rattle.cast_world.proofs.Allowed.{passed, passes}
use Rattle.cast_world.proofs.Flush.{AllCovered, Choice, Chosen, Covered, CutWell, GroupAgrees}
use Rattle.cast_world.proofs.Flush.{IsChosen, IsMembers, IsTrueOf, SiteAgrees, Told, numbers}
use Rattle.cast_world.proofs.FlushCounts.{cut_covers, within_of}
use Rattle.cast_world.proofs.FlushLaters.{Extends, agrees_later, covered_later, extends_then, told_extends, true_later}
use Rattle.cast_world.proofs.FlushMoves.{FlowsTo, flows_delivered, flows_group, flows_part}
use Rattle.cast_world.proofs.FlushMoves.{flows_passing, flows_same, flows_sent, parted_old, parted_sent, told_flows}
use Rattle.cast_world.proofs.FlushSites.{all_part_agrees, delivered_agrees, emits_agrees, follow_agrees, group_agrees}
use Rattle.cast_world.proofs.FlushSites.{home_agrees, join_agrees, members_chosen, opened_agrees, part_agrees}
use Rattle.cast_world.proofs.FlushSites.{proc_among, ready_within, received_agrees, sent_agrees, view_agrees}
use Rattle.cast_world.proofs.Homes.{Awaits, HomeFollows, brought_follows, idle_not, is_gathering}
use Rattle.cast_world.proofs.Homes.{left_follows, not_gathering, reported_follows, reports_of, request_follows}
use Rattle.cast_world.proofs.Homes.{same_decision, same_sites, set_had, started_follows, suspicion_follows}
use Rattle.cast_world.proofs.Invariants.{Later, SiteHolds, Sites}
use Rattle.cast_world.proofs.Kept.{Comes, Kept, KeptByTelling, MayMove, completes, ends, installs, skips, sends_unfrozen}
use Rattle.cast_world.proofs.Laters.{later_same, set_group_all, site_later}
use Rattle.cast_world.proofs.Local.{cases_group}
use Rattle.cast_world.proofs.Moves.{all_part_site, later_delivered, later_group, later_home}
use Rattle.cast_world.proofs.Moves.{later_join, later_part, later_passing, later_sent}
use Rattle.cast_world.proofs.Ones.{set_here, set_other}
use Rattle.cast_world.proofs.Steps.{Arrived, Now, ahead_at, at_home, kept_now, next_of, own_holds, own_is, same_site, sites_at}
use Rattle.cast_world.proofs.Views.{still_member}
use Rattle.cast_world.specs.Network.{Network}
use Rattle.cast_world.specs.declared.step.Packet.{Packet}
use Rattle.cast_message.specs.declared.site.SiteFrame.TheVariants as frame

not_is : (b : Bool) → not b ≡ true → b ≡ false
not_is true e = absurd (false≢true e)
not_is false e = refl

reported : (s : SiteNo) (rs : List (SiteNo × Report)) → has_report rs s ≡ true → (r : Report) × Contains rs (s, r)
reported s [] e = absurd (false≢true e)
reported s (x ∷ rs) e = go (site_eq x.0 s) refl (reported s rs)
  where
    go : (b : Bool) → site_eq x.0 s ≡ b → (has_report rs s ≡ true → (r : Report) × Contains rs (s, r)) →
        (r : Report) × Contains (x ∷ rs) (s, r)
    go true same more = (x.1, (0, omega arith, λ i. (same_sites x.0 s same i, x.1)))
    go false other more =
        let later = more (sym (ap (λ b. b || has_report rs s) other) ∙ e) in
        (later.0, (suc later.1.0, omega (arith, later.1.1), later.1.2))

-- a home that may decide has a report of each member that is not suspected
pub has_reported : (g : GroupNo) (h : Home) (p : Phase) → may_decide_in g h p ≡ true → Awaits (record h { phase = p }) → (q : Proc) →
    Contains h.members.list q → is_suspected h q.site ≡ false →
    (r : Report) × Contains (reports_of p) (q.site, r)
has_reported g h Idle may awaits q member free = absurd (false≢true may)
has_reported g h (Gathering awaited reports bodies) may awaits q member free =
    reported q.site reports
    (passes (has_report reports) awaited (and_parts (is_complete awaited reports) _ may).0 q.site (awaits refl q member free))
has_reported g h (Installing waiting d bodies) may awaits q member free = absurd (false≢true may)

-- who is in the next view is at no suspected site
pub not_suspected : (h : Home) (q : Proc) → Contains (decided_list h) q → is_suspected h q.site ≡ false
not_suspected h q at =
    elim (Contains-append_cases (filter (stays h) h.members.list) (filter (λ p. not (is_suspected h p.site)) h.joins)
    q (set_had proc_cmp _ q at)) [
      | inl old ↦ not_is (is_suspected h q.site) (and_parts _ (not (is_suspected h q.site)) (passed (stays h) h.members.list q old)).1
      | inr new ↦ not_is (is_suspected h q.site) (passed (λ p. not (is_suspected h p.site)) h.joins q new)
    ]

module _ (home : SiteNo) (w : Network) (a : SiteNo) where
  abbrev at : State → Sites
  at t = sites_at home w a t

  abbrev number : State → GroupNo → ℕ
  number t = numbers (sites_at home w a t) home

  pub record Flushing (t : State) (choice : Choice) : Type 0 where
    pub sites : (s : SiteNo) → SiteAgrees choice (number t) (at t) s (at t s)
    pub packets : (p : Packet) → Contains w.sent p → IsTrueOf choice (number t) (at t) p.from p.frame
    pub covered : AllCovered choice (number t) (at t)

  -- by a choice that goes on from an earlier one
  abbrev pub FlushNow : Choice → (GroupNo → ℕ) → State → Type 0
  FlushNow first low t = Now home w a t × (choice : Choice) × Flushing t choice × Extends first low choice (number t)

  pub own_agrees : (t : State) (choice : Choice) → Flushing t choice → SiteAgrees choice (number t) (at t) a t
  own_agrees t choice f = subst (SiteAgrees choice (number t) (at t) a) (own_is home w a t) (f.sites a)

  -- a move, with what the home decided by it
  module _ (t u : State) (later : Later t u) (now : Now home w a t) (choice more : Choice) (f : Flushing t choice)
      (ext : Extends choice (number t) more (number u)) (flows : FlowsTo choice (number t) t u) where
    told : (s : SiteNo) (g : GroupNo) (view : ℕ) (counts : CountList) → Told choice (number t) (at t s) g view counts →
        Told more (number u) (at u s) g view counts
    told s g view counts = go (site_eq a s)
      where
        go : (b : Bool) → Told choice (number t) (if b then t else w.at s) g view counts →
            Told more (number u) (if b then u else w.at s) g view counts
        go true was =
            told_extends choice (number t) more (number u) ext u g view counts (told_flows choice (number t) t u flows g view counts was)
        go false was = told_extends choice (number t) more (number u) ext (w.at s) g view counts was

    pub truths : (p : Packet) → Contains w.sent p → IsTrueOf more (number u) (at u) p.from p.frame
    truths p c = true_later home choice more (at t) (at u) ext told p.from p.to p.frame (now.1 p c) (f.packets p c)

    pub old_here : SiteAgrees more (number u) (at u) a t
    old_here = agrees_later home choice more (at t) (at u) ext told a t (own_holds home w a t now) (own_agrees t choice f)

    pub flush_move : SiteAgrees more (number u) (at u) a u →
        ((g : GroupNo) (view : ℕ) → number t g ≤ view → view < number u g → Covered more (number u) (at u) g view) → Flushing u more
    flush_move here fresh = record {
      sites = λ s. go s (site_eq a s) refl (now.0 s) (f.sites s);
      packets = truths;
      covered = λ g view lt. elim (cases_lt view (number t g)) [
        | inl old ↦ covered_later home choice more (at t) (at u) ext told g view (omega (arith, old)) (f.covered g view old)
        | inr new ↦ fresh g view new lt
      ];
    }
      where
        go : (s : SiteNo) (b : Bool) → site_eq a s ≡ b → SiteHolds (at t) home s (if b then t else w.at s) →
            SiteAgrees choice (number t) (at t) s (if b then t else w.at s) → SiteAgrees more (number u) (at u) s (if b then u else w.at s)
        go s true e x y = subst (λ z. SiteAgrees more (number u) (at u) z u) (same_site a s e) here
        go s false e x y = agrees_later home choice more (at t) (at u) ext told s (w.at s) x y

  -- a move by which the home decides nothing
  module _ (first : Choice) (low : GroupNo → ℕ) (t u : State) (later : Later t u)
      (still : (g : GroupNo) → (u.home g).number ≤ (t.home g).number) where
    no_more : (g : GroupNo) → number u g ≤ number t g
    no_more g = go (site_eq a home)
      where
        go : (b : Bool) → ((if b then u else w.at home).home g).number ≤ ((if b then t else w.at home).home g).number
        go true = still g
        go false = omega arith

    extends : (choice : Choice) → Extends choice (number t) choice (number u)
    extends choice g = ((ahead_at home w a t u later home).decided g, λ n le. refl)

    pub keep : Now home w a u → (i : FlushNow first low t) → ((choice : Choice) (f : Flushing t choice) → FlowsTo choice (number t) t u) →
        ((choice : Choice) (f : Flushing t choice) → SiteHolds (at u) home a t → SiteAgrees choice (number u) (at u) a t → at u a ≡ u →
        ((from : SiteNo) (fr : SiteFrame) → Arrived home w a from fr → IsTrueOf choice (number u) (at u) from fr) →
        SiteAgrees choice (number u) (at u) a u) →
        FlushNow first low u
    keep now_u (now, choice, f, ext) flows site = (
      now_u,
      choice,
      flush_move t u later now choice choice f (extends choice) (flows choice f)
          (site choice f (site_later (at t) (at u) home (ahead_at home w a t u later) a t (own_holds home w a t now))
          (old_here t u later now choice choice f (extends choice) (flows choice f)) (own_is home w a u)
          (λ from fr c.
          truths t u later now choice choice f (extends choice) (flows choice f) (record { from = from; to = a; frame = fr }) c))
          (λ g view low_view lt. absurd (let none = no_more g in omega (arith, low_view, lt, none))),
      extends_then first low choice (number t) choice (number u) ext (extends choice),
    )

  -- a decision
  module _ (t : State) (g : GroupNo) (here : is_home history t ≡ true) (may : may_decide g (t.home g) ≡ true) (now : Now home w a t)
      (choice : Choice) (f : Flushing t choice) where
    abbrev h : Home
    h = t.home g

    abbrev u : State
    u = set_home t g (decide_view (t.home g))

    abbrev made : Chosen
    made = record { members = decided_members h; cut = cut_from h.members.list (reports_of h.phase) }

    abbrev more : Choice
    more j n = if group_eq g j && (n == h.number + 1) then made else choice j n

    home_is : a ≡ home
    home_is = same_site a home (sym (at_home home w a t now) ∙ here)

    at_home_t : at t home ≡ t
    at_home_t = subst (λ z. at t z ≡ t) home_is (own_is home w a t)

    at_home_u : at u home ≡ u
    at_home_u = subst (λ z. at u z ≡ u) home_is (own_is home w a u)

    number_t : number t g ≡ h.number
    number_t = ap (λ (y : State). (y.home g).number) at_home_t

    number_u : number u g ≡ h.number + 1
    number_u = ap (λ (y : State). (y.home g).number) at_home_u ∙ ap (λ (y : Home). y.number) (set_here t.home g (decide_view h) g refl)

    number_else : (j : GroupNo) → (g ≡ j → ⊥) → number u j ≡ number t j
    number_else j apart =
        ap (λ (y : State). (y.home j).number) at_home_u
        ∙ ap (λ (y : Home). y.number) (set_other t.home g (decide_view h) j apart)
        ∙ sym (ap (λ (y : State). (y.home j).number) at_home_t)

    more_here : more g (h.number + 1) ≡ made
    more_here = λ i. if eq-eqb g.0 g.0 refl i && eq-eqb (h.number + 1) (h.number + 1) refl i then made else choice g (h.number + 1)

    more_else : (j : GroupNo) (n : ℕ) → n ≤ number t j → more j n ≡ choice j n
    more_else j n low = go (group_eq g j) refl (n == h.number + 1) refl
      where
        go : (b : Bool) → group_eq g j ≡ b → (c : Bool) → (n == h.number + 1) ≡ c → (if b && c then made else choice j n) ≡ choice j n
        go true e true d =
            let same : number t g ≡ number t j = ap (number t) (ap (λ x. record { 0 = x }) (eqb-true g.0 j.0 e)) in
            let is : n ≡ h.number + 1 = eqb-true n (h.number + 1) d in
            let top = number_t in
            absurd (omega (arith, same, is, top, low))
        go true e false d = refl
        go false e c d = refl

    decide_later : Later t u
    decide_later = later_home t g (decide_view h) (omega arith)

    extended : Extends choice (number t) more (number u)
    extended j = ((ahead_at home w a t u decide_later home).decided j, more_else j)

    flows : FlowsTo choice (number t) t u
    flows = flows_same choice (number t) t

    y : SiteAgrees choice (number t) (at t) a t
    y = own_agrees t choice f

    installing_cut : (left : List SiteNo) (c : Decision) (more_bodies : List Message) (waiting : List SiteNo) (d : Decision)
        (bodies : List Message) → installing left c more_bodies ≡ Installing waiting d bodies → d.cut ≡ c.cut
    installing_cut [] c more_bodies waiting d bodies e = absurd (idle_not waiting d bodies e)
    installing_cut (q ∷ left) c more_bodies waiting d bodies e =
        ap (λ (x : Decision). x.cut) (sym (same_decision (q ∷ left) waiting c d more_bodies bodies e))

    new_cut : (p : Phase) → may_decide_in g h p ≡ true → (waiting : List SiteNo) (d : Decision) (bodies : List Message) →
        decided_phase h (decided_list h) p ≡ Installing waiting d bodies → d.cut ≡ cut_from h.members.list (reports_of p)
    new_cut Idle may_in waiting d bodies e = absurd (false≢true may_in)
    new_cut (Gathering awaited reports more_bodies) may_in waiting d bodies e =
        installing_cut (with_items site_cmp (sites_of (decided_list h)) awaited) (decision_of h reports) more_bodies waiting d bodies e
    new_cut (Installing left c more_bodies) may_in waiting d bodies e = absurd (false≢true may_in)

    none_reported : (left : List SiteNo) (c : Decision) (bodies : List Message) (q : SiteNo) (r : Report) →
        Contains (reports_of (installing left c bodies)) (q, r) → ⊥
    none_reported [] c bodies q r at_it = omega (arith, at_it.1)
    none_reported (s ∷ left) c bodies q r at_it = omega (arith, at_it.1)

    pub no_reports : (p : Phase) → may_decide_in g h p ≡ true → (q : SiteNo) (r : Report) →
        Contains (reports_of (decided_phase h (decided_list h) p)) (q, r) → ⊥
    no_reports Idle may_in q r c = false≢true may_in
    no_reports (Gathering awaited reports bodies) may_in q r c =
        none_reported (with_items site_cmp (sites_of (decided_list h)) awaited) (decision_of h reports) bodies q r c
    no_reports (Installing left d bodies) may_in q r c = false≢true may_in

    gathers_not : (p : Phase) → may_decide_in g h p ≡ true → is_gathering (decided_phase h (decided_list h) p) ≡ true → ⊥
    gathers_not Idle may_in e = false≢true may_in
    gathers_not (Gathering awaited reports bodies) may_in e =
        not_gathering (λ from fr. Arrived home w a from fr) g (with_items site_cmp (sites_of (decided_list h)) awaited)
        (decision_of h reports) bodies e
    gathers_not (Installing left d bodies) may_in e = false≢true may_in

    fresh : (j : GroupNo) (view : ℕ) → number t j ≤ view → view < number u j → Covered more (number u) (at u) j view
    fresh j view low lt = elim (cases_group g j) [
      | inr apart ↦ absurd (let same = number_else j apart in omega (arith, same, low, lt))
      | inl same ↦
          let top : number t j ≡ h.number = sym (ap (number t) same) ∙ number_t in
          let up : number u j ≡ h.number + 1 = sym (ap (number u) same) ∙ number_u in
          let is : h.number ≡ view = omega (arith, top, up, low, lt) in
          subst (λ x. Covered more (number u) (at u) x view) same (subst (λ v. Covered more (number u) (at u) g v) is now_covered)
    ]
      where
        now_covered : Covered more (number u) (at u) g h.number
        now_covered q before after =
            let old : more g h.number ≡ choice g h.number = more_else g h.number (let top = number_t in omega (arith, top)) in
            let members : choice g h.number ≡ choice g h.number = refl in
            let member : Contains h.members.list q =
            subst (λ (x : Membership). Contains x.list q) (sym (y.homes g).members)
            (subst (λ (c : Chosen). Contains c.members.list q) old before) in
            let free : is_suspected h q.site ≡ false =
            not_suspected h q (subst (λ (c : Chosen). Contains c.members.list q) more_here after) in
            let report = has_reported g h h.phase may (y.homes g).awaits q member free in (
              report.0.counts,
              told t u decide_later now choice more f extended flows q.site g h.number report.0.counts
                  ((y.homes g).reports q.site report.0 report.1),
              λ e counted chosen low_e.
                  let from : Contains h.members.list e.0 =
                  subst (λ (x : Membership). Contains x.list e.0) (sym (y.homes g).members)
                  (subst (λ (c : Chosen). Contains c.members.list e.0) old chosen) in
                  let up = cut_covers h.members.list (reports_of h.phase) q.site report.0 report.1 e.0 from in
                  subst (λ (c : Chosen). IsTrue (is_within c.cut e)) (sym more_here) (within_of made.cut e (omega (arith, low_e, up))),
            )

    pub decides_flush : Flushing u more
    decides_flush = flush_move t u decide_later now choice more f extended flows
        (home_agrees more (at u)
        home a t (site_later (at t) (at u) home (ahead_at home w a t u decide_later) a t (own_holds home w a t now))
        (old_here t u decide_later now choice more f extended flows) g (decide_view h) record {
          members = ap (λ (c : Chosen). c.members) (sym more_here);
          decision = λ waiting d bodies e. new_cut h.phase may waiting d bodies e ∙ ap (λ (c : Chosen). c.cut) (sym more_here);
          awaits = λ e. absurd (gathers_not h.phase may e);
          reports = λ q r c. absurd (no_reports h.phase may q r c);
        }) fresh

  -- All moves, with a choice that goes on from an earlier one

  module _ (first : Choice) (low : GroupNo → ℕ) where
    abbrev k : Kept (Now home w a) (Arrived home w a) (site_eq a home)
    k = kept_now home w a

    flush_telling : KeptByTelling (FlushNow first low)
    flush_telling = record {
      emits = λ t to fr i says.
          keep first low t (emit t to fr) (later_same t) (λ g. omega arith) (k.telling.emits t to fr i.0 says)
          i (λ choice f. flows_same choice (number t) t)
          (λ choice f x y own truth. emits_agrees choice (at (emit t to fr)) home a t x y to fr own says);
      books = λ t quotas moment acks told_list owed casts pushes i.
          let u : State = record t {
            quotas = quotas;
            moment = moment;
            acks = acks;
            told = told_list;
            owed = owed;
            casts = casts;
            pushes = pushes;
          } in
          keep first low t u (later_same t) (λ g. omega arith) (k.telling.books t quotas moment acks told_list owed casts pushes i.0)
          i (λ choice f. flows_same choice (number t) t) (λ choice f x y own truth. y);
      releases = λ t lets i. keep first low t (releasing t lets) (later_same t) (λ g. omega arith) (k.telling.releases t lets i.0)
          i (λ choice f. flows_same choice (number t) t) (λ choice f x y own truth. y);
      sets_session = λ t n v i same. keep first low t (set_session t n v) (later_same t) (λ g. omega arith)
          (k.telling.sets_session t n v i.0 same) i (λ choice f. flows_same choice (number t) t) (λ choice f x y own truth. y);
      parts = λ t n g i.
          keep first low t (outside t n g) (later_part t n g) (λ j. omega arith) (k.telling.parts t n g i.0)
          i (λ choice f. flows_part choice (number t) t n g)
          (λ choice f x y own truth. part_agrees choice (at (outside t n g)) home a t x y n g);
      requests = λ t g what q i.
          let u : State = set_group t g (with_request (t.group g) what q) in
          keep first low t u (later_group t g (with_request (t.group g) what q) (omega arith)) (λ j. omega arith)
          (k.telling.requests t g what q i.0) i
          (λ choice f. flows_group choice (number t) t g (with_request (t.group g) what q) refl (λ e. e))
          (λ choice f x y own truth. group_agrees choice (at u) home a t x y g (with_request (t.group g) what q)
          refl record { view = (y.groups g).view; pending = (y.groups g).pending; frozen = (y.groups g).frozen });
    }

    -- a site passes to a later view
    pub passes_up : (t : State) (g : GroupNo) (skipped : Bool) (n : ℕ) (members : Membership) (request : ℕ) (cut : CountList) →
        Comes (Arrived home w a) t g skipped n members request cut → (t.group g).number < n
    passes_up t g skipped n members request cut (completes p e all no_skip n_is members_is request_is cut_is) = omega (arith, n_is)
    passes_up t g skipped n members request cut (installs from tail came none no_skip up) = up
    passes_up t g skipped n members request cut (skips from tail came skip up) = up
    passes_up t g skipped n members request cut (ends from came skip up members_is) = up

    -- its members were decided with it
    chosen_of : (t : State) (g : GroupNo) (skipped : Bool) (n : ℕ) (members : Membership) (request : ℕ) (cut : CountList) →
        Comes (Arrived home w a) t g skipped n members request cut → (choice : Choice) → GroupAgrees choice g (t.group g) →
        ((from : SiteNo) (tail : Tail) → Arrived home w a from (frame.Install g n members request cut tail) →
        (members ≡ (choice g n).members) × (cut ≡ (choice g n).cut)) →
        (m : Membership) → local_view t.here members ≡ Some m → m ≡ (choice g n).members
    chosen_of t g skipped n members request cut comes choice agrees truth m e = go (list_any (is_at t.here) members.list) refl e
      where
        by : Comes (Arrived home w a) t g skipped n members request cut → list_any (is_at t.here) members.list ≡ true →
            members ≡ (choice g n).members
        by (completes p pend all no_skip n_is members_is request_is cut_is) some =
            members_is ∙ (agrees.pending p pend).0 ∙ ap (λ v. (choice g v).members) (sym n_is)
        by (installs from tail came none no_skip up) some = (truth from tail came).0
        by (skips from tail came skip up) some = (truth from tail came).0
        by (ends from came skip up members_is) some =
            absurd (false≢true (subst (λ (z : Membership). list_any (is_at t.here) z.list ≡ true) members_is some))

        go : (b : Bool) → list_any (is_at t.here) members.list ≡ b → (if b then Some members else None) ≡ Some m → m ≡ (choice g n).members
        go true some is = sym (ap (λ (o : Option Membership). unwrap_or o members) is) ∙ by comes some
        go false none is = absurd (false≢true (ap is_some is))

    -- who enters it has delivered nothing beyond the cut, which was decided with it
    module _ (t : State) (g : GroupNo) (skipped : Bool) (n : ℕ) (members : Membership) (request : ℕ) (cut : CountList)
        (i : FlushNow first low t) (choice : Choice) (f : Flushing t choice) where
      abbrev left : State
      left = putting_out t g skipped members

      abbrev goes : ℕ → Bool
      goes = is_put_out t g skipped members

      abbrev x_now : SiteHolds (at t) home a t
      x_now = own_holds home w a t i.0

      abbrev x_left : SiteHolds (at t) home a left
      x_left = all_part_site (at t) home a t x_now g goes

      abbrev y_left : SiteAgrees choice (number t) (at t) a left
      y_left = all_part_agrees choice (at t) home a t x_now (own_agrees t choice f) g goes

      complete_well : (p : Pending) → (t.group g).pending ≡ Some p → (j : ℕ) → is_among proc_eq (local t j) p.members.list ≡ true →
          CutWell (left.acts j) (Entered g ((t.group g).number + 1) p.cut)
      complete_well p e j among view m in_it done group in_view =
          let was = (x_left.ones j).fits.member g view in_it in
          let here : (t.group g).number ≡ view = ((x_left.ones j).member g was.0).0 ∙ was.1 in
          let decided : (t.group g).number + 1 ≤ number t g = ((x_now.groups g).pending p e).0 in
          let pend = (y_left.groups g).pending p e in
          let before : IsChosen choice g (t.group g).number (local t j) =
          members_chosen choice g (t.group g) (y_left.groups g) (local t j) ((y_left.ones j).listed g was.0) in
          let after : IsChosen choice g ((t.group g).number + 1) (local t j) =
          subst (λ (z : Membership). Contains z.list (local t j)) pend.0 (proc_among p.members.list (local t j) among) in
          let told_it = f.covered g (t.group g).number (omega (arith, decided)) (local t j) before after in
          let told_here : Told choice (number t) t g (t.group g).number told_it.0 =
          subst (λ (z : State). Told choice (number t) z g (t.group g).number told_it.0) (ap (at t) x_now.here_is ∙ own_is home w a t)
          told_it.1 in
          let by_member : IsMembers choice (number t) m.id =
          elim done [ inl c ↦ y_left.received m (y_left.own j m c) | inr c ↦ (y_left.ones j).sender m c ] in
          let chosen : IsChosen choice g (t.group g).number m.id.proc =
          subst (λ v. IsChosen choice g v m.id.proc) (in_view ∙ sym here)
          (subst (λ z. IsChosen choice z m.id.view m.id.proc) group by_member.1) in
          subst (λ c. IsTrue (is_within c (entry_of m.id))) (sym pend.1) (elim done [
            | inl sent ↦
                told_it.2 (entry_of m.id) tt chosen (told_here.sent j m (parted_sent t g goes j m sent) group (in_view ∙ sym here))
            | inr delivered ↦ elim (told_here.within j m (parted_old t g goes j m delivered) group (in_view ∙ sym here)) [
              | inl low ↦ told_it.2 (entry_of m.id) tt chosen low
              | inr within ↦ within.1
            ]
          ])

      well_of : Comes (Arrived home w a) t g skipped n members request cut →
          ((from : SiteNo) (tail : Tail) → Arrived home w a from (frame.Install g n members request cut tail) →
          (members ≡ (choice g n).members) × (cut ≡ (choice g n).cut)) →
          (j : ℕ) → enters left g members request j ≡ true → (cut ≡ (choice g n).cut) × CutWell (left.acts j) (Entered g n cut)
      well_of (completes p pend all no_skip n_is members_is request_is cut_is) truth j entering =
          let among =
          (and_parts (is_taken_in request ((left.process j).standing g)) (is_among proc_eq (local t j) members.list) entering).1 in (
            cut_is ∙ ((y_left.groups g).pending p pend).1 ∙ ap (λ v. (choice g v).cut) (sym n_is),
            subst (λ v. CutWell (left.acts j) (Entered g v cut)) (sym n_is)
                (subst (λ c. CutWell (left.acts j) (Entered g ((t.group g).number + 1) c)) (sym cut_is)
                (complete_well p pend j (subst (λ (z : Membership). is_among proc_eq (local t j) z.list ≡ true) members_is among))),
          )
      well_of (installs from tail came none no_skip up) truth j entering = (
        (truth from tail came).1,
        λ view m in_it done group in_view.
            absurd (true≢false (sym ((x_left.ones j).member g ((x_left.ones j).fits.member g view in_it).0).1 ∙ none)),
      )
      well_of (skips from tail came skip up) truth j entering = (
        (truth from tail came).1,
        λ view m in_it done group in_view.
            absurd (true≢false (sym skip ∙ (still_member t g skipped members j ((x_left.ones j).fits.member g view in_it).0).1)),
      )
      well_of (ends from came skip up members_is) truth j entering =
          absurd (false≢true (subst (λ (z : Membership). is_among proc_eq (local t j) z.list ≡ true) members_is
          (and_parts (is_taken_in request ((left.process j).standing g)) (is_among proc_eq (local t j) members.list) entering).1))

      pub passing_agrees : (u : State) → Later t u → Comes (Arrived home w a) t g skipped n members request cut →
          SiteHolds (at u) home a t → SiteAgrees choice (number u) (at u) a t →
          ((from : SiteNo) (fr : SiteFrame) → Arrived home w a from fr → IsTrueOf choice (number u) (at u) from fr) →
          SiteAgrees choice (number u) (at u) a (passing t g skipped n members request cut)
      passing_agrees u later comes x y truth =
          let installed : (from : SiteNo) (tail : Tail) → Arrived home w a from (frame.Install g n members request cut tail) →
          (members ≡ (choice g n).members) × (cut ≡ (choice g n).cut) =
          λ from tail came. truth from (frame.Install g n members request cut tail) came in
          view_agrees choice (at u) home a left (all_part_site (at u) home a t x g goes) (all_part_agrees choice (at u) home a t x y g goes)
          g n members request cut
          (next_of home w a t i.0 u later g skipped n members request cut comes).decided
          (chosen_of t g skipped n members request cut comes choice (y.groups g) installed)
          (well_of comes installed) (λ j member. (still_member t g skipped members j member).2)

    -- a home that moves on without a decision
    follows_flush : (t : State) (g : GroupNo) (h : Home) → FlushNow first low t → Now home w a (set_home t g h) →
        HomeFollows (Arrived home w a) g (t.home g) h → FlushNow first low (set_home t g h)
    follows_flush t g h i now_u f = keep first low t (set_home t g h) (later_home t g h (let same = f.number in omega (arith, same)))
        (set_group_all (λ j (z : Home). z.number ≤ (t.home j).number) t.home g h (λ j. omega arith)
        (let same = f.number in omega (arith, same))) now_u i
        (λ choice fl. flows_same choice (number t) t)
        (λ choice fl x y own truth. follow_agrees choice (at (set_home t g h)) home a t x y (Arrived home w a) truth g h f)

    homes_flush : (t : State) (g : GroupNo) (what : HomeMove) → FlushNow first low t → MayMove (Arrived home w a) t g what →
        FlushNow first low (set_home t g (apply_move what (t.home g)))
    homes_flush t g (Asked from number_it what p) i may =
        follows_flush t g (after_ask (t.home g) from number_it what p) i (k.homes t g (Asked from number_it what p) i.0 may)
        (request_follows (Arrived home w a) g (t.home g) from number_it what p may)
    homes_flush t g (Suspected site) i may =
        follows_flush t g (after_suspicion (t.home g) site) i (k.homes t g (Suspected site) i.0 may)
        (suspicion_follows (Arrived home w a) g (t.home g) site)
    homes_flush t g Started i may =
        follows_flush t g (after_start (t.home g)) i (k.homes t g Started i.0 may) (started_follows (Arrived home w a) g (t.home g))
    homes_flush t g (Reported from view r) i may =
        follows_flush t g (after_report (t.home g) from view r) i (k.homes t g (Reported from view r) i.0 may)
        (reported_follows (Arrived home w a) g (t.home g) from view r may)
    homes_flush t g (Brought m) i may =
        follows_flush t g (after_body (t.home g) m) i (k.homes t g (Brought m) i.0 may)
        (brought_follows (Arrived home w a) g (t.home g) may.0 m may.1)
    homes_flush t g Decided i may =
        let u : State = set_home t g (decide_view (t.home g)) in (
          k.homes t g Decided i.0 may,
          more t g may.0 may.1 i.0 i.1 i.2,
          decides_flush t g may.0 may.1 i.0 i.1 i.2,
          extends_then first low i.1 (number t) (more t g may.0 may.1 i.0 i.1 i.2) (number u) i.3 (extended t g may.0 may.1 i.0 i.1 i.2),
        )
    homes_flush t g (Installed from view) i may =
        follows_flush t g (after_installed (t.home g) from view) i (k.homes t g (Installed from view) i.0 may)
        (left_follows (Arrived home w a) g (t.home g) from view)

    pub kept_flush : Kept (FlushNow first low) (Arrived home w a) (site_eq a home)
    kept_flush = record {
      telling = flush_telling;
      fixed = λ t i. k.fixed t i.0;
      opens = λ t i. keep first low t (opening_next t) (later_same t) (λ g. omega arith) (k.opens t i.0) i
          (λ choice f. flows_same choice (number t) t) (λ choice f x y own truth. opened_agrees choice (at (opening_next t)) home a t x y);
      answers = λ t g i.
          let u : State = set_group t g (with_answer (t.group g)) in
          keep first low t u (later_group t g (with_answer (t.group g)) (omega arith)) (λ j. omega arith) (k.answers t g i.0) i
          (λ choice f. flows_group choice (number t) t g (with_answer (t.group g)) refl (λ e. e))
          (λ choice f x y own truth. group_agrees choice (at u) home a t x y g (with_answer (t.group g))
          refl record { view = (y.groups g).view; pending = (y.groups g).pending; frozen = (y.groups g).frozen });
      joins = λ t n g i open_it known out.
          let u : State = set_standing t n g (Joining ((t.group g).asked + 1) (view_of (t.process n).time g)) in
          keep first low t u (later_join t n g (view_of (t.process n).time g)) (λ j. omega arith) (k.joins t n g i.0 open_it known out) i
          (λ choice f. flows_same choice (number t) t)
          (λ choice f x y own truth. join_agrees choice (at u) home a t x y n g ((t.group g).asked + 1) (view_of (t.process n).time g));
      sends = λ t g n content i member may.
          let m : Message = next_message t g n content in
          let u : State = receiving (noting_sent t n m) m in
          keep first low t u (later_sent t n m) (λ j. omega arith) (k.sends t g n content i.0 member may) i
          (λ choice f. flows_sent choice (number t) t n m refl (sends_unfrozen t g n content may))
          (λ choice f x y own truth. sent_agrees choice (at u) home a t x y g n content member);
      receives = λ t from m i came view member.
          let u : State = receiving t m in
          keep first low t u (later_same t) (λ j. omega arith) (k.receives t from m i.0 came view member) i
          (λ choice f. flows_same choice (number t) t) (λ choice f x y own truth. received_agrees choice (at u) home a t x y m view member);
      delivers = λ t n m i c ready.
          let u : State = with_delivery t n m in
          keep first low t u (later_delivered t n m) (λ j. omega arith) (k.delivers t n m i.0 c ready) i
          (λ choice f.
          let within =
          ready_within choice (at t) home a t (own_holds home w a t i.0) (own_agrees t choice f) n m ready in
          flows_delivered choice (number t) t n m within.0 within.1)
          (λ choice f x y own truth. delivered_agrees choice (at u) home a t x y n m c ready);
      freezes = λ t g i current.
          let u : State = freezing t g in
          keep first low t u (later_group t g (frozen_side (t.group g)) (omega arith)) (λ j. omega arith) (k.freezes t g i.0 current) i
          (λ choice f. flows_group choice (number t) t g (frozen_side (t.group g)) refl (λ e. refl))
          (λ choice f x y own truth. group_agrees choice (at u) home a t x y g (frozen_side (t.group g))
          refl record { view = (y.groups g).view; pending = (y.groups g).pending; frozen = λ e. current });
      pends = λ t from g p tail i came current.
          let v : MemberSide = with_pending (t.group g) p in
          let u : State = pending_install t g p tail in
          keep first low t u (later_group t g v (omega arith)) (λ j. omega arith) (k.pends t from g p tail i.0 came current) i
          (λ choice f. flows_group choice (number t) t g v refl (λ e. refl))
          (λ choice f x y own truth.
          let told_it = truth from (frame.Install g ((t.group g).number + 1) p.members p.request p.cut tail) came in
          group_agrees choice (at u) home a t x y g v refl record {
            view = (y.groups g).view;
            pending = λ q e.
                let is = ap (λ (o : Option Pending). unwrap_or o q) e in
                (ap (λ (z : Pending). z.members) (sym is) ∙ told_it.0, ap (λ (z : Pending). z.cut) (sym is) ∙ told_it.1);
            frozen = λ e. current;
          });
      passes = λ t g skipped n members request cut i comes.
          let u : State = passing t g skipped n members request cut in
          let later : Later t u = later_passing t g skipped n members request cut in
          keep first low t u later (λ j. omega arith) (k.passes t g skipped n members request cut i.0 comes) i
          (λ choice f.
          flows_passing choice (number t) t g skipped n members request cut (passes_up t g skipped n members request cut comes))
          (λ choice f x y own truth. passing_agrees t g skipped n members request cut i choice f u later comes x y truth);
      homes = homes_flush;
    }
