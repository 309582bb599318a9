-- What holds of how views end is kept where an Install begins to wait, and where a site passes to a view.
use Rattle.std.proofs.Common.{ap, arith, inl, inr, subst, sym, ◌∙◌}
use Rattle.std.proofs.lemmas.Bool.{and_parts, eqb-true, false≢true, true≢false}
use Rattle.std.proofs.lemmas.List.{append-nil}
use Rattle.std.specs.Prelude.{◌+◌, ◌++◌, ◌<◌, Bool, Contains, List, Option, Some, [], false, filter}
use Rattle.std.specs.Prelude.{if◌then◌else◌, is_some, refl, true, unwrap_or, ℕ, ◌∷◌, ◌≡◌, ◌≤◌}
use Rattle.cast_rules.specs.Acts.Act.{Entered, Left}
use Rattle.cast_rules.specs.Entering.{enters, is_put_out, put_outside, passing, pending_install, putting_out}
use Rattle.cast_rules.specs.Noted.{abcasts_by}
use Rattle.cast_rules.specs.Order.{order_told}
use Rattle.cast_rules.specs.State.{State, is_group, local}
use Rattle.cast_message.specs.Membership.{Membership}
use Rattle.cast_message.specs.Tail.{Tail}
use Rattle.cast_order.specs.Order.{closed_order}
use Rattle.cast_timer.specs.Owed.{is_of_view}
use Rattle.cast_types.specs.Counts.{CountList, is_within}
use Rattle.cast_types.specs.Names.{Entry, group_eq, proc_eq}
use Rattle.cast_types.specs.Sets.{is_among, set_at}
use Rattle.cast_types.specs.declared.names.GroupNo.{GroupNo}
use Rattle.cast_types.specs.declared.names.SiteNo.{SiteNo}
use Rattle.cast_types.specs.declared.names.Standing.TheVariants.{Member}
use Rattle.cast_view.specs.MemberSide.{MemberSide, has_view, is_pending, is_taken_in, with_pending, with_view}
use Rattle.cast_view.specs.declared.member.Pending.{Pending}
use Rattle.cast_world.proofs.ClosingMoves.{ClosingNow, came_same, closing_same, own_closing, still_there}
use Rattle.cast_world.proofs.ClosingSites.{begins_end, start_same}
use Rattle.cast_world.proofs.Closings.{Calm, CloseWell, End, Notes, SiteClosing, Stopped, Stops, end_ids, end_tail, final}
use Rattle.cast_world.proofs.Facts.{Each}
use Rattle.cast_world.proofs.Firsts.{firsts}
use Rattle.cast_world.proofs.Flush.{Chosen, IsChosen, numbers}
use Rattle.cast_world.proofs.FlushLaters.{Extends}
use Rattle.cast_world.proofs.FlushSites.{proc_among}
use Rattle.cast_world.proofs.FlushSteps.{own_agrees, passes_up}
use Rattle.cast_world.proofs.Invariants.{SiteHolds, Sites}
use Rattle.cast_world.proofs.Kept.{Comes, completes, ends, installs, skips}
use Rattle.cast_world.proofs.Laters.{set_group_all}
use Rattle.cast_world.proofs.Lists.{each_more}
use Rattle.cast_world.proofs.Local.{cases_group}
use Rattle.cast_world.proofs.Moves.{all_part_site, later_group, later_passing}
use Rattle.cast_world.proofs.Ones.{set_here, set_other}
use Rattle.cast_world.proofs.Onward.{stands}
use Rattle.cast_world.proofs.OrderMoves.{own_ordered}
use Rattle.cast_world.proofs.OrderPasses.{standing_same}
use Rattle.cast_world.proofs.OrderSites.{all_part_ordered}
use Rattle.cast_world.proofs.OrderSteps.{From, begin, flush}
use Rattle.cast_world.proofs.Orders.{done_in}
use Rattle.cast_world.proofs.Steps.{Arrived, own_holds, sites_at}
use Rattle.cast_world.proofs.Views.{still_member}
use Rattle.cast_world.proofs.WindowSteps.{WindowNow, kept_window, no_key}
use Rattle.cast_world.specs.Agreement.{IsPrefix}
use Rattle.cast_world.specs.Network.{Network}
use Rattle.cast_message.specs.declared.site.SiteFrame.TheVariants as frame

module _ (home : SiteNo) (w : Network) (a : SiteNo) where
  abbrev at : State → Sites
  at t = sites_at home w a t

  abbrev number : State → GroupNo → ℕ
  number t = numbers (sites_at home w a t) home

  -- An Install comes to wait

  module _ (t : State) (from : SiteNo) (g : GroupNo) (p : Pending) (tail : Tail) (i : ClosingNow home w a no_key t)
      (came : Arrived home w a from (frame.Install g ((t.group g).number + 1) p.members p.request p.cut tail))
      (current : has_view (t.group g) ≡ true) (waits : is_pending (t.group g) ≡ false) (known : is_group t g ≡ true) where
    abbrev u : State
    u = pending_install t g p tail

    abbrev j : WindowNow home w a no_key u
    j = (kept_window home w a).pends t from g p tail i.0 came current waits known

    abbrev ext : Extends i.0.0.1 (number t) j.0.1 (number u)
    ext = ((flush home w a t i.0.0).pends t from g p tail (begin home w a t i.0.0) came current).3

    abbrev v : ℕ
    v = (t.group g).number

    abbrev side : MemberSide
    side = with_pending (t.group g) p

    abbrev e : End
    e = i.1 g v

    abbrev cut : CountList
    cut = (j.0.1 g (v + 1)).cut

    pend_stops : Stops t u
    pend_stops h n =
        set_group_all (λ y (z : MemberSide). Stopped (t.group y) n → Stopped z n) t.group g side (λ y s. s)
        (λ s. record { reached = s.reached; frozen = λ _. refl }) h

    pend_calm : Calm t u
    pend_calm h n k s m c q = (
      m,
      set_group_all (λ y (z : MemberSide). z.number ≡ n → (t.group y).number ≡ n) t.group g side (λ y is. is) (λ is. is) h c,
      set_group_all (λ y (z : MemberSide). is_pending z ≡ false → is_pending (t.group y) ≡ false) t.group g side (λ y is. is)
          (λ is. absurd (true≢false is)) h q,
      refl,
    )

    pend_notes : Notes t u
    pend_notes k = ([], append-nil (t.abcasts k))

    decided : v + 1 ≤ number t g
    decided = (i.0.0.0.1 (record { from = from; to = a; frame = frame.Install g (v + 1) p.members p.request p.cut tail }) came).0

    same_choice : j.0.1 g (v + 1) ≡ i.0.0.1 g (v + 1)
    same_choice = (ext g).1 (v + 1) decided

    agreed : (p.members ≡ (j.0.1 g (v + 1)).members) × (p.cut ≡ cut)
    agreed =
        let here = set_here t.group g side g refl in
        subst (λ n. (p.members ≡ (j.0.1 g (n + 1)).members) × (p.cut ≡ (j.0.1 g (n + 1)).cut)) (ap (λ (z : MemberSide). z.number) here)
        (((own_agrees home w a u j.0.1 j.0.2).groups g).pending p (ap (λ (z : MemberSide). z.pending) here))

    tail_is : tail ≡ end_tail cut e
    tail_is =
        came_same home w a no_key no_key t u (later_group t g side (omega arith))
        i j ext refl refl refl pend_stops pend_notes pend_calm from (frame.Install g (v + 1) p.members p.request p.cut tail) came v refl

    abbrev closed : List Entry
    closed = closed_order (is_within p.cut) tail.start tail.ids (order_told t g)

    -- the order is closed as the view ended
    closed_is : (k : ℕ) → (t.process k).standing g ≡ Member → closed ≡ final cut e
    closed_is k member =
        (λ n. closed_order (is_within (agreed.1 n)) (tail_is n).start (tail_is n).ids (order_told t g))
        ∙ ap (λ l. filter (is_within cut) (l ++ end_ids cut e)) (start_same home w a t i.0.0.0 i.0.0.1 i.0.0.2 i.0.0.3 i.0.0.4 i.0.0.5 i.0.1
        i.0.2 g e (i.2.ended g v decided) decided k member waits)

    closed_begins : (k : ℕ) → (t.process k).standing g ≡ Member → Contains p.members.list (local t k) →
        IsPrefix (done_in g v (t.abcasts k)) (firsts closed)
    closed_begins k member among =
        let after : IsChosen i.0.0.1 g (v + 1) (local t k) =
        subst (λ (c : Chosen). Contains c.members.list (local t k))
        same_choice (subst (λ (z : Membership). Contains z.list (local t k)) agreed.0 among) in
        subst (λ l. IsPrefix (done_in g v (t.abcasts k)) (firsts l))
        (sym (closed_is k member ∙ ap (λ (c : Chosen). final c.cut e) same_choice))
        (begins_end home w a t i.0.0.0 i.0.0.1 i.0.0.2 i.0.0.3 i.0.0.4 i.0.0.5 i.0.1 i.0.2 g e (i.2.ended g v decided)
        decided k member waits after)

    pub pends_closing : ClosingNow home w a no_key u
    pends_closing =
        closing_same home w a no_key no_key t u (later_group t g side (omega arith)) i j ext refl refl refl pend_stops pend_notes pend_calm
        (still_there home w a t u (λ h. omega arith)) (λ x. record {
          closes = λ h q k is m. closes_at x h (group_eq g h) refl q k is m;
          begins = λ h q k is m z. begins_at x h (group_eq g h) refl q k is m z;
          well = x.well;
          reports = x.reports;
          decision = x.decision;
          sent = x.sent;
        })
      where
        closes_at : SiteClosing j.0.1 (at u) j.0.3 j.0.4 j.1 i.1 a t → (h : GroupNo) (b : Bool) → group_eq g h ≡ b → (q : Pending) (k : ℕ) →
            (if b then with_pending (t.group g) p else t.group h).pending ≡ Some q → (t.process k).standing h ≡ Member →
            (if b then closed_order (is_within p.cut) tail.start tail.ids (order_told t g) else t.closed h)
            ≡ final (j.0.1 h ((if b then with_pending (t.group g) p else t.group h).number + 1)).cut
            (i.1 h (if b then with_pending (t.group g) p else t.group h).number)
        closes_at x h true same q k is m =
            subst (λ z. (t.process k).standing z ≡ Member → closed_order (is_within p.cut) tail.start tail.ids (order_told t g)
            ≡ final (j.0.1 z ((t.group g).number + 1)).cut (i.1 z (t.group g).number))
            (ap (λ n. record { 0 = n }) (eqb-true g.0 h.0 same)) (closed_is k) m
        closes_at x h false other q k is m = x.closes h q k is m

        begins_at : SiteClosing j.0.1 (at u) j.0.3 j.0.4 j.1 i.1 a t → (h : GroupNo) (b : Bool) → group_eq g h ≡ b → (q : Pending) (k : ℕ) →
            (if b then with_pending (t.group g) p else t.group h).pending ≡ Some q → (t.process k).standing h ≡ Member →
            Contains q.members.list (record { site = t.here; serial = k }) →
            IsPrefix (done_in h (if b then with_pending (t.group g) p else t.group h).number (t.abcasts k))
            (firsts (if b then closed_order (is_within p.cut) tail.start tail.ids (order_told t g) else t.closed h))
        begins_at x h true same q k is m z =
            subst (λ y. (t.process k).standing y ≡ Member → IsPrefix (done_in y (t.group g).number (t.abcasts k))
            (firsts (closed_order (is_within p.cut) tail.start tail.ids (order_told t g))))
            (ap (λ n. record { 0 = n }) (eqb-true g.0 h.0 same))
            (λ s. closed_begins k s (subst (λ (y : Pending). Contains y.members.list (record { site = t.here; serial = k }))
            (sym (ap (λ (o : Option Pending). unwrap_or o p) is)) z)) m
        begins_at x h false other q k is m z = x.begins h q k is m z

  -- A site passes to a view

  module _ (t : State) (g : GroupNo) (skipped : Bool) (n : ℕ) (members : Membership) (request : ℕ) (cut : CountList)
      (i : ClosingNow home w a no_key t) (comes : Comes (Arrived home w a) t g skipped n members request cut) where
    abbrev next : State
    next = passing t g skipped n members request cut

    abbrev now : WindowNow home w a (is_of_view g) next
    now = (kept_window home w a).passes t g skipped n members request cut i.0 comes

    abbrev r : From home w a t i.0.0 next
    r = (flush home w a t i.0.0).passes t g skipped n members request cut (begin home w a t i.0.0) comes

    abbrev left : State
    left = putting_out t g skipped members

    abbrev new : MemberSide
    new = with_view t.here n members (t.group g)

    up : (t.group g).number < n
    up = passes_up home w a i.0.0.1 (number t) t g skipped n members request cut comes

    pass_stops : Stops t next
    pass_stops h v = set_group_all (λ y (z : MemberSide). Stopped (t.group y) v → Stopped z v) t.group g new (λ y s. s)
        (λ s. record {
          reached = (let low = s.reached in let lt = up in omega (arith, low, lt));
          frozen = λ is.
              absurd (let low = s.reached in let lt = up in omega (arith, low, lt, is));
        }) h

    left_member : (k : ℕ) (h : GroupNo) → (left.process k).standing h ≡ Member → (t.process k).standing h ≡ Member
    left_member k h m = go (is_put_out t g skipped members k) m
      where
        go : (b : Bool) → (if b then put_outside g (t.process k) else t.process k).standing h ≡ Member → (t.process k).standing h ≡ Member
        go true s = stands ((t.process k).standing h) (group_eq g h) s
        go false s = s

    other_member : (h : GroupNo) (k : ℕ) → (g ≡ h → ⊥) → (next.process k).standing h ≡ Member → (t.process k).standing h ≡ Member
    other_member h k apart m =
        left_member k h (standing_same home w a t i.0.0.0 i.0.0.1 i.0.0.2 i.0.0.3 i.0.0.4 i.0.0.5 g skipped n members request cut comes r.1
        r.2 r.3 h k apart m)

    pass_calm : Calm t next
    pass_calm h v k s m c q = elim (cases_group g h) [
      | inl here ↦ absurd (
          let is : n ≡ v = sym (ap (λ (z : MemberSide). z.number) (set_here t.group g new h here)) ∙ c in
          let low = s.reached in
          let same = ap (λ y. (t.group y).number) here in
          let lt = up in
          omega (arith, is, low, same, lt))
      | inr apart ↦
          (let same = set_other t.group g new h apart in
          (other_member h k apart m, sym (ap (λ (z : MemberSide). z.number) same) ∙ c, sym (ap is_pending same) ∙ q, refl))
    ]

    -- who enters from the view before has delivered a prefix of the order that it ended with
    entered_well : (k : ℕ) → enters left g members request k ≡ true → CloseWell now.0.1 i.1 (left.acts k) (Entered g n cut)
    entered_well k entering view in_it is =
        let holds : SiteHolds (at t) home a left =
        all_part_site (at t) home a t (own_holds home w a t i.0.0.0) g (is_put_out t g skipped members) in
        let was = (holds.ones k).fits.member g view in_it in
        let here : (t.group g).number ≡ view = ((holds.ones k).member g was.0).0 ∙ was.1 in
        let still = still_member t g skipped members k was.0 in
        by comes still.0 still.1 here (((holds.ones k).member g was.0).1)
      where
        among : is_among proc_eq (local t k) members.list ≡ true
        among =
            (and_parts (is_taken_in request (((putting_out t g skipped members).process k).standing g))
            (is_among proc_eq (local t k) members.list) entering).1

        by : Comes (Arrived home w a) t g skipped n members request cut → (t.process k).standing g ≡ Member → skipped ≡ false →
            (t.group g).number ≡ view → has_view (t.group g) ≡ true →
            IsPrefix (done_in g view (abcasts_by ((putting_out t g skipped members).acts k)))
            (firsts (final (now.0.1 g (view + 1)).cut (i.1 g view)))
        by (completes p pend all no_skip n_is members_is request_is cut_is) member none here viewed =
            let x = own_closing home w a t i.0.0.1 i.0.0.3 i.0.0.4 i.0.1 i.1 i.2 in
            let listed : Contains p.members.list (local t k) =
            subst (λ (z : Membership). Contains z.list (local t k)) members_is (proc_among members.list (local t k) among) in
            let begin_it = x.begins g p k pend member listed in
            let closed = x.closes g p k pend member in
            let decided = ((own_holds home w a t i.0.0.0).groups g).pending p pend in
            let noted : t.abcasts k ≡ abcasts_by ((putting_out t g skipped members).acts k) =
            (all_part_ordered i.0.0.3 i.0.0.4 t (own_ordered home w a t i.0.0.0 i.0.0.1 i.0.0.2 i.0.0.3 i.0.0.4 i.0.0.5)
            g (is_put_out t g skipped members)).listed k in
            subst (λ l. IsPrefix (done_in g view l) (firsts (final (now.0.1 g (view + 1)).cut (i.1 g view)))) noted
            (subst (λ v. IsPrefix (done_in g v (t.abcasts k)) (firsts (final (now.0.1 g (v + 1)).cut (i.1 g v)))) here
            (subst (λ l. IsPrefix (done_in g (t.group g).number (t.abcasts k)) (firsts l)) (closed
            ∙ ap (λ (c : Chosen). final c.cut (i.1 g (t.group g).number)) (sym ((r.3 g).1 ((t.group g).number + 1) decided.0))) begin_it))
        by (installs from tail came none_yet no_skip up_it) member none here viewed = absurd (true≢false (sym viewed ∙ none_yet))
        by (skips from tail came skip up_it) member none here viewed = absurd (true≢false (sym skip ∙ none))
        by (ends from came skip up_it members_is) member none here viewed = absurd (true≢false (sym skip ∙ none))

    pub passes_closing : ClosingNow home w a (is_of_view g) next
    passes_closing =
        closing_same home w a no_key (is_of_view g) t next (later_passing t g skipped n members request cut) i now r.3 refl refl refl
        pass_stops (λ k. ([], append-nil (t.abcasts k))) pass_calm (still_there home w a t next (λ h. omega arith)) (λ x. record {
          closes = λ h q k is m. elim (cases_group g h) [
            | inl here ↦ absurd (none_waits h here q is)
            | inr apart ↦ (let same = set_other t.group g new h apart in
                subst (λ (z : MemberSide). z.pending ≡ Some q → t.closed h ≡ final (now.0.1 h (z.number + 1)).cut (i.1 h z.number))
                (sym same)
                (λ pend. x.closes h q k pend (other_member h k apart m)) is)
          ];
          begins = λ h q k is m z. elim (cases_group g h) [
            | inl here ↦ absurd (none_waits h here q is)
            | inr apart ↦ (let same = set_other t.group g new h apart in
                subst (λ (y : MemberSide). y.pending ≡ Some q → IsPrefix (done_in h y.number (t.abcasts k)) (firsts (t.closed h)))
                (sym same)
                (λ pend. x.begins h q k pend (other_member h k apart m) z) is)
          ];
          well = λ k. entered_acts x k (enters left g members request k) refl;
          reports = x.reports;
          decision = x.decision;
          sent = x.sent;
        })
      where
        none_waits : (h : GroupNo) → g ≡ h → (q : Pending) →
            (set_at group_eq t.group g (with_view t.here n members (t.group g)) h).pending ≡ Some q → ⊥
        none_waits h here q is =
            false≢true (ap is_some
            (sym (ap (λ (z : MemberSide). z.pending) (set_here t.group g (with_view t.here n members (t.group g)) h here)) ∙ is))

        left_acts : SiteClosing now.0.1 (at next) now.0.3 now.0.4 now.1 i.1 a t → (k : ℕ) (b : Bool) →
            Each (CloseWell now.0.1 i.1) (if b then t.acts k ++ Left g ∷ [] else t.acts k)
        left_acts x k true = each_more (CloseWell now.0.1 i.1) (t.acts k) (Left g) (x.well k) tt
        left_acts x k false = x.well k

        entered_acts : SiteClosing now.0.1 (at next) now.0.3 now.0.4 now.1 i.1 a t → (k : ℕ) (b : Bool) →
            enters (putting_out t g skipped members) g members request k ≡ b →
            Each (CloseWell now.0.1 i.1)
            (if b then (putting_out t g skipped members).acts k ++ Entered g n cut ∷ [] else (putting_out t g skipped members).acts k)
        entered_acts x k true entering =
            each_more (CloseWell now.0.1 i.1) ((putting_out t g skipped members).acts k) (Entered g n cut)
            (left_acts x k (is_put_out t g skipped members k)) (entered_well k entering)
        entered_acts x k false other = left_acts x k (is_put_out t g skipped members k)
