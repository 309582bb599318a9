-- Every move of one site keeps what holds of how views end.
-- The claim is `kept_closing`: `ClosingNow`, what holds of how views end, is kept by all moves of
-- a site. A view ends with one order for all who pass to the next view. `sends_closing` is a
-- message that is sent: it is of the group's view, which has not ended at this site.
-- `delivers_closing` is a delivery: while an Install waits, it goes by the order that the view
-- ends with. The other moves deliver nothing.
use Rattle.std.proofs.Common.{ap, arith, inl, inr, subst, sym, ◌∙◌}
use Rattle.std.proofs.lemmas.Bool.{cases_Bool, false≢true, true≢false}
use Rattle.std.proofs.lemmas.List.Elements.{Contains-push_cases}
use Rattle.std.proofs.lemmas.List.{append-nil}
use Rattle.std.specs.Prelude.{◌+◌, ◌++◌, ◌==◌, Bool, Contains, List, None, Option, Some}
use Rattle.std.specs.Prelude.{[], false, if◌then◌else◌, refl, true, ℕ, ◌∷◌, ◌≡◌, ◌≤◌}
use Rattle.cast_clock.specs.Times.{join, view_of}
use Rattle.cast_ready.specs.Ready.{Process, is_member}
use Rattle.cast_rules.specs.Acts.{Act}
use Rattle.cast_rules.specs.Acts.Act.{Delivered, Left, Sent}
use Rattle.cast_rules.specs.Effects.{next_message}
use Rattle.cast_rules.specs.Entering.{put_outside}
use Rattle.cast_rules.specs.Owing.{paying_view}
use Rattle.cast_rules.specs.Rules.Keys.{message_key}
use Rattle.cast_rules.specs.Reports.{report_in}
use Rattle.cast_rules.specs.State.{State, emit, is_ended, noting_ack, noting_act, noting_sent, noting_stable, outside}
use Rattle.cast_rules.specs.State.{receiving, releasing, releasing_ended, set_group, set_session, set_standing, with_delivery}
use Rattle.cast_rules.specs.Step.{opening_next}
use Rattle.cast_rules.specs.Turns.{is_ready_for}
use Rattle.cast_message.specs.Bodies.{kind_of}
use Rattle.cast_message.specs.declared.message.Body.{Body}
use Rattle.cast_message.specs.declared.message.Message.{Message}
use Rattle.cast_message.specs.declared.site.SiteFrame.{SiteFrame}
use Rattle.cast_quota.specs.declared.quotas.Quotas.{Quotas}
use Rattle.cast_timer.specs.Owed.{is_of_view, key_eq, paid, renew, with_owed}
use Rattle.cast_timer.specs.declared.key.OwedKey.{OwedKey}
use Rattle.cast_types.specs.Names.{Entry, entry_of, group_eq, is_atomic, site_eq}
use Rattle.cast_types.specs.Sets.{set_at}
use Rattle.cast_types.specs.declared.names.GroupNo.{GroupNo}
use Rattle.cast_types.specs.declared.names.SiteNo.{SiteNo}
use Rattle.cast_types.specs.declared.names.Standing.TheVariants.{Joining, Member}
use Rattle.cast_types.specs.declared.names.Uid.{Uid}
use Rattle.cast_view.specs.MemberSide.{MemberSide, frozen_side, is_pending, with_answer, with_request}
use Rattle.cast_view.specs.declared.member.Pending.{Pending}
use Rattle.cast_world.proofs.ClosingMoves.{ClosingNow, closing_keep, closing_quiet, closing_same, own_closing, reported_same, still_there}
use Rattle.cast_world.proofs.ClosingHomes.{homes_closing}
use Rattle.cast_world.proofs.ClosingPasses.{passes_closing, pends_closing}
use Rattle.cast_world.proofs.ClosingReports.{reports_it}
use Rattle.cast_world.proofs.ClosingSites.{delivers_closed, final_had}
use Rattle.cast_world.proofs.Closings.{Calm, CloseWell, HasReported, IsAbcast, IsClosing, Notes, SiteClosing, Stopped, Stops, final}
use Rattle.cast_world.proofs.Facts.{Each}
use Rattle.cast_world.proofs.Firsts.{firsts}
use Rattle.cast_world.proofs.Flush.{numbers}
use Rattle.cast_world.proofs.FlushLaters.{Extends}
use Rattle.cast_world.proofs.Invariants.{Sites}
use Rattle.cast_world.proofs.Kept.{Adds, Draws, FullyKept, FullyKeptByTelling, MaySend, Says, casts, draws_less, hands, lists}
use Rattle.cast_world.proofs.Laters.{later_same, set_all, set_group_all}
use Rattle.cast_world.proofs.Listings.{done_apart, done_here, parts_of_id}
use Rattle.cast_world.proofs.Lists.{each_more}
use Rattle.cast_world.proofs.Moves.{later_delivered, later_group, later_join, later_part, later_sent}
use Rattle.cast_world.proofs.Onward.{asks, stands}
use Rattle.cast_world.proofs.OrderGrows.{cases_here, grows, has_token}
use Rattle.cast_world.proofs.OrderHands.{hand_cases, hand_token}
use Rattle.cast_world.proofs.OrderSteps.{begin, delivery_tells, flush}
use Rattle.cast_world.proofs.OrderTells.{is_open}
use Rattle.cast_world.proofs.Orders.{done_in, token_at}
use Rattle.cast_world.proofs.Steps.{Arrived, own_holds, sites_at}
use Rattle.cast_world.proofs.WindowGrows.{widened_up}
use Rattle.cast_world.proofs.WindowMoves.{window_delivers}
use Rattle.cast_world.proofs.WindowSteps.{books_window, WindowNow, delivers_window, kept_window, no_key, sends_window, window_telling}
use Rattle.cast_world.specs.Agreement.{IsPrefix, is_in}
use Rattle.cast_world.specs.Network.{Network}
use Rattle.cast_message.specs.declared.site.SiteFrame.TheVariants as frame
use Rattle.cast_timer.specs.declared.key.OwedKind.TheVariants as kinds

module _ (home : SiteNo) (w : Network) (a : SiteNo) where
  abbrev at : State → Sites
  at t = sites_at home w a t

  abbrev number : State → GroupNo → ℕ
  number t = numbers (sites_at home w a t) home

  abbrev still : (t u : State) → ((g : GroupNo) → (u.home g).number ≤ (t.home g).number) → (g : GroupNo) → number u g ≤ number t g
  still = still_there home w a

  -- a group changes, but for its view and number; it may stop
  group_stops : (t : State) (g : GroupNo) (v : MemberSide) → v.number ≡ (t.group g).number → ((t.group g).frozen ≡ true → v.frozen ≡ true) →
      Stops t (set_group t g v)
  group_stops t g v same frozen h n = set_group_all (λ j (z : MemberSide). Stopped (t.group j) n → Stopped z n) t.group g v (λ j s. s)
      (λ s. record { reached = (let low = s.reached in omega (arith, low, same)); frozen = λ e. frozen (s.frozen (sym same ∙ e)) }) h

  group_calm : (t : State) (g : GroupNo) (v : MemberSide) → v.number ≡ (t.group g).number →
      (is_pending v ≡ false → is_pending (t.group g) ≡ false) → Calm t (set_group t g v)
  group_calm t g v same waits h n k s m c p = (
    m,
    set_group_all (λ j (z : MemberSide). z.number ≡ n → (t.group j).number ≡ n) t.group g v (λ j e. e) (λ e. sym same ∙ e) h c,
    set_group_all (λ j (z : MemberSide). is_pending z ≡ false → is_pending (t.group j) ≡ false) t.group g v (λ j e. e) waits h p,
    refl,
  )

  no_notes : (t : State) → Notes t t
  no_notes t k = ([], append-nil (t.abcasts k))

  -- what telling programs is made of
  module _ (skip : OwedKey → Bool) where
    abbrev n : FullyKeptByTelling (Arrived home w a) (WindowNow home w a skip)
    n = window_telling home w a skip

    -- a frame that is sent says what is so
    module _ (t : State) (to : SiteNo) (f : SiteFrame) (i : ClosingNow home w a skip t) (says : Says t to f) (adds : Adds t f)
        (draws : Draws (Arrived home w a) (WindowNow home w a skip) t f) where
      abbrev now : State
      now = emit t to f

      abbrev next : WindowNow home w a skip now
      next = n.emits t to f i.0 says adds draws

      abbrev from : Extends i.0.0.1 (number t) next.0.1 (number now)
      from = ((flush home w a t i.0.0).telling.emits t to f (begin home w a t i.0.0) says).3

      new_frame : SiteClosing next.0.1 (at now) next.0.3 next.0.4 next.1 i.1 a t → (fr : SiteFrame) → Says t to fr → Adds t fr →
          IsClosing next.0.1 (at now) next.0.3 next.0.4 next.1 i.1 a fr
      new_frame x (frame.Data m) says_it adds_it = tt
      new_frame x (frame.Ack z) says_it adds_it = tt
      new_frame x (frame.Stable z) says_it adds_it = tt
      new_frame x (frame.Ask g k what p) says_it adds_it = tt
      new_frame x (frame.Asked g k full) says_it adds_it = tt
      new_frame x (frame.Prepare g view) says_it adds_it = tt
      new_frame x (frame.Flushed g view counts tail kept) says_it adds_it =
          let r = reports_it home w a t i.0.0.0 i.0.0.1 i.0.0.2 i.0.0.3 i.0.0.4 i.0.0.5 i.0.1 i.0.2 g says_it.1 adds_it.0 in
          let one =
          reported_same home w a skip skip t now (later_same t) i next from refl refl refl (λ h v s. s)
          (λ k. ([], append-nil (t.abcasts k))) (λ h v k s m c p. (m, c, p, refl)) a g (t.group g).number (report_in t g).tail
          (report_in t g).kept
          ((own_holds home w a t i.0.0.0).groups g).number r in
          subst (λ z. HasReported next.0.1 (at now) next.0.3 next.0.4 next.1 a g z tail kept) (sym says_it.0)
          (subst (λ z. HasReported next.0.1 (at now) next.0.3 next.0.4 next.1 a g (t.group g).number z kept) (sym adds_it.1)
          (subst (λ z. HasReported next.0.1 (at now) next.0.3 next.0.4 next.1 a g (t.group g).number (report_in t g).tail z)
          (sym adds_it.2) one))
      new_frame x (frame.Want z) says_it adds_it = tt
      new_frame x (frame.Forward m) says_it adds_it = tt
      new_frame x (frame.Install g k members request cut tail) says_it adds_it =
          λ view is. adds_it.4 ∙ x.decision g adds_it.0 adds_it.1 adds_it.2 view adds_it.3 (sym says_it.4 ∙ is)
      new_frame x (frame.Installed g view) says_it adds_it = tt
      new_frame x (frame.Out g view) says_it adds_it = tt

    -- a process parts
    part_member : (t : State) (k : ℕ) (g : GroupNo) (j : ℕ) (h : GroupNo) → ((outside t k g).process j).standing h ≡ Member →
        (t.process j).standing h ≡ Member
    part_member t k g =
        set_all (λ j (q : Process). (h : GroupNo) → q.standing h ≡ Member → (t.process j).standing h ≡ Member)
        t.process k (put_outside g (t.process k)) (λ j h e. e) (λ h e. stands ((t.process k).standing h) (group_eq g h) e)

    part_well : (P : List Act → Act → Type 0) (t : State) (k : ℕ) (g : GroupNo) → ((acts : List Act) → P acts (Left g)) →
        ((j : ℕ) → Each P (t.acts j)) → (j : ℕ) → Each P ((outside t k g).acts j)
    part_well P t k g new all j = go (is_member ((t.process k).standing g))
      where
        go : (b : Bool) → Each P ((if b then (noting_act t k (Left g)).acts else t.acts) j)
        go true =
            set_all (λ i (l : List Act). Each P l) t.acts k (t.acts k ++ Left g ∷ [])
            all (each_more P (t.acts k) (Left g) (all k) (new (t.acts k))) j
        go false = all j

    group_closing : (t : State) (g : GroupNo) (v : MemberSide) (asked : (t.group g).asked ≤ v.asked) (i : ClosingNow home w a skip t)
        (j : WindowNow home w a skip (set_group t g v)) (ext : Extends i.0.0.1 (number t) j.0.1 (number (set_group t g v))) →
        j.0.3 ≡ i.0.0.3 → j.0.4 ≡ i.0.0.4 → j.1 ≡ i.0.1 → v.number ≡ (t.group g).number → ((t.group g).frozen ≡ true → v.frozen ≡ true) →
        v.pending ≡ (t.group g).pending → ClosingNow home w a skip (set_group t g v)
    group_closing t g v asked i j ext order given safe same frozen pending =
        let u : State = set_group t g v in
        closing_same home w a skip skip t u (later_group t g v asked) i j ext order given safe (group_stops t g v same frozen) (no_notes t)
        (group_calm t g v same (λ p. ap (λ (o : Option Pending). elim o as (λ x. Bool) [ Some q ↦ true | None ↦ false ]) (sym pending) ∙ p))
        (still t u (λ h. omega arith))
        (λ x. record {
          closes =
              set_group_all (λ h (z : MemberSide). (p : Pending) (k : ℕ) → z.pending ≡ Some p → (t.process k).standing h ≡ Member →
              t.closed h ≡ final (j.0.1 h (z.number + 1)).cut (i.1 h z.number)) t.group g v x.closes
              (λ p k e m. x.closes g p k (sym pending ∙ e) m ∙ sym (ap (λ z. final (j.0.1 g (z + 1)).cut (i.1 g z)) same));
          begins =
              set_group_all (λ h (z : MemberSide). (p : Pending) (k : ℕ) → z.pending ≡ Some p → (t.process k).standing h ≡ Member →
              Contains p.members.list (record { site = t.here; serial = k }) →
              IsPrefix (done_in h z.number (t.abcasts k)) (firsts (t.closed h)))
              t.group g v x.begins (λ p k e m c.
              subst (λ z. IsPrefix (done_in g z (t.abcasts k)) (firsts (t.closed g))) (sym same) (x.begins g p k (sym pending ∙ e) m c));
          well = x.well;
          reports = x.reports;
          decision = x.decision;
          sent = x.sent;
        })

    pub books_closing : (t : State) (quotas : Quotas) (moment count : ℕ) → ClosingNow home w a skip t →
        ClosingNow home w a skip (record t { quotas = quotas; moment = moment; casts = count })
    books_closing t quotas moment count i =
        let u : State = record t { quotas = quotas; moment = moment; casts = count } in
        closing_quiet home w a skip skip t u (later_same t) i (books_window home w a skip t quotas moment count i.0)
        ((flush home w a t i.0.0).telling.books t quotas moment t.acks t.told t.owed count t.pushes (begin home w a t i.0.0)).3 refl refl
        refl refl refl (λ k g e. e) (still t u (λ g. omega arith)) (λ x. x)

    pub closing_telling : FullyKeptByTelling (Arrived home w a) (ClosingNow home w a skip)
    closing_telling = record {
      emits = λ t to f i says adds draws.
          let u : State = emit t to f in
          let less : Draws (Arrived home w a) (WindowNow home w a skip) t f =
          draws_less (Arrived home w a) (ClosingNow home w a skip) (WindowNow home w a skip) (λ v x. x.0) t f draws in
          let j : WindowNow home w a skip u = n.emits t to f i.0 says adds less in
          closing_quiet home w a skip skip t u (later_same t)
          i j ((flush home w a t i.0.0).telling.emits t to f (begin home w a t i.0.0) says).3 refl refl refl refl refl (λ k g e. e)
          (still t u (λ g. omega arith))
          (λ x. record {
            closes = x.closes;
            begins = x.begins;
            well = x.well;
            reports = x.reports;
            decision = x.decision;
            sent = λ to_it f_it c. elim (Contains-push_cases t.frames (to, f) (to_it, f_it) c) [
              | inl old ↦ x.sent to_it f_it old
              | inr same ↦
                  subst (λ (p : SiteNo × SiteFrame). IsClosing j.0.1 (at u) j.0.3 j.0.4 j.1 i.1 a p.1)
                  same (new_frame t to f i says adds less x f says adds)
            ];
          });
      books = λ t moment count i. books_closing t t.quotas moment count i;
      pushes = λ t k p i agrees.
          let u : State = record t { pushes = t.pushes ++ (k, p) ∷ [] } in
          closing_quiet home w a skip skip t u (later_same t) i (n.pushes t k p i.0 agrees)
          ((flush home w a t i.0.0).telling.books t t.quotas t.moment t.acks t.told t.owed t.casts (t.pushes ++ (k, p) ∷ [])
          (begin home w a t i.0.0)).3 refl refl refl refl refl (λ k_it g e. e) (still t u (λ g. omega arith)) (λ x. x);
      owes = λ t key due i owes wants lacks awaited.
          let u : State = record t { owed = with_owed t.owed key due } in
          closing_quiet home w a skip skip t u (later_same t) i (n.owes t key due i.0 owes wants lacks awaited)
          ((flush home w a t i.0.0).telling.books t t.quotas t.moment t.acks t.told (with_owed t.owed key due)
          t.casts t.pushes (begin home w a t i.0.0)).3 refl refl refl refl refl (λ k g e. e) (still t u (λ g. omega arith)) (λ x. x);
      renews = λ t key due i owes owed.
          let u : State = record t { owed = renew t.owed key due } in
          closing_quiet home w a skip skip t u (later_same t) i (n.renews t key due i.0 owes owed)
          ((flush home w a t i.0.0).telling.books t t.quotas t.moment t.acks t.told (renew t.owed key due)
          t.casts t.pushes (begin home w a t i.0.0)).3 refl refl refl refl refl (λ k g e. e) (still t u (λ g. omega arith)) (λ x. x);
      pays = λ t test i.
          let u : State = record t { owed = paid test t.owed } in
          closing_quiet home w a skip skip t u (later_same t) i (n.pays t test i.0)
          ((flush home w a t i.0.0).telling.books t t.quotas t.moment t.acks t.told (paid test t.owed)
          t.casts t.pushes (begin home w a t i.0.0)).3 refl refl refl refl refl (λ k g e. e) (still t u (λ g. omega arith)) (λ x. x);
      releases = λ t lets i.
          let u : State = releasing t lets in
          closing_quiet home w a skip skip t u (later_same t) i (n.releases t lets i.0)
          ((flush home w a t i.0.0).telling.releases t lets (begin home w a t i.0.0)).3 refl refl refl refl refl (λ k g e. e)
          (still t u (λ g. omega arith)) (λ x. x);
      sets_session = λ t k v i same.
          let u : State = set_session t k v in
          closing_quiet home w a skip skip t u (later_same t) i (n.sets_session t k v i.0 same)
          ((flush home w a t i.0.0).telling.sets_session t k v (begin home w a t i.0.0) same).3 refl refl refl refl refl (λ k_it g e. e)
          (still t u (λ g. omega arith)) (λ x. x);
      parts = λ t k g i.
          let u : State = outside t k g in
          let j : WindowNow home w a skip u = n.parts t k g i.0 in
          closing_quiet home w a skip skip t u (later_part t k g)
          i j ((flush home w a t i.0.0).telling.parts t k g (begin home w a t i.0.0)).3 refl refl refl refl refl (part_member t k g)
          (still t u (λ h. omega arith))
          (λ x. record {
            closes = λ h p q e m. x.closes h p q e (part_member t k g q h m);
            begins = λ h p q e m. x.begins h p q e (part_member t k g q h m);
            well = part_well (CloseWell j.0.1 i.1) t k g (λ acts. tt) x.well;
            reports = x.reports;
            decision = x.decision;
            sent = x.sent;
          });
      requests = λ t g what p i inside. group_closing t g (with_request (t.group g) what p) (omega arith) i
          (n.requests t g what p i.0 inside)
          ((flush home w a t i.0.0).telling.requests t g what p (begin home w a t i.0.0)).3 refl refl refl refl (λ e. e) refl;
    }

  -- Deliveries

  module _ (t : State) (k : ℕ) (m : Message) (i : ClosingNow home w a no_key t) (c : Contains t.got m)
      (ready : is_ready_for t k m ≡ true) where
    abbrev done_now : State
    done_now = with_delivery t k m

    abbrev j : WindowNow home w a no_key done_now
    j = delivers_window home w a t k m i.0 c ready

    abbrev ext : Extends i.0.0.1 (number t) j.0.1 (number done_now)
    ext = ((flush home w a t i.0.0).delivers t k m (begin home w a t i.0.0) c ready).3

    -- of what holds of a list of ABCASTs
    noted : (P : ℕ → List Uid → Type 0) → ((q : ℕ) → P q (t.abcasts q)) →
        (is_atomic (kind_of m.body) ≡ true → P k (t.abcasts k ++ m.id ∷ [])) → (q : ℕ) → P q (done_now.abcasts q)
    noted P all new q = go (is_atomic (kind_of m.body)) refl
      where
        go : (b : Bool) → is_atomic (kind_of m.body) ≡ b →
            P q ((if b then set_at (λ x y. x == y) t.abcasts k (t.abcasts k ++ m.id ∷ []) else t.abcasts) q)
        go false e = all q
        go true e = set_all P t.abcasts k (t.abcasts k ++ m.id ∷ []) all (new e) q

    same_standing : (q : ℕ) (g : GroupNo) → (done_now.process q).standing g ≡ Member → (t.process q).standing g ≡ Member
    same_standing = set_all (λ q (p : Process). (g : GroupNo) → p.standing g ≡ Member → (t.process q).standing g ≡ Member) t.process k
        (record (t.process k) { time = join (t.process k).time m.times; delivered = (t.process k).delivered ++ m.id ∷ [] })
        (λ q g e. e) (λ g e. e)

    delivers_notes : Notes t done_now
    delivers_notes = noted (λ q us. IsPrefix (t.abcasts q) us) (λ q. ([], append-nil (t.abcasts q))) (λ _. (m.id ∷ [], refl))

    delivers_calm : Calm t done_now
    delivers_calm g v q stopped member current waits = (
      same_standing q g member,
      current,
      waits,
      noted (λ p us. done_in g v us ≡ done_in g v (t.abcasts p)) (λ p. refl) (λ _. elim (cases_Bool (is_in g v m.id)) [
        | inl is ↦ absurd (
            let two = parts_of_id g v m.id is in
            let open_it = is_open t k m tt ready (ap (λ h. is_pending (t.group h)) two.0 ∙ waits) in
            true≢false (sym (stopped.frozen current) ∙ (ap (λ h. (t.group h).frozen) (sym two.0) ∙ open_it)))
        | inr other ↦ done_apart g v (t.abcasts k) m.id other
      ]) q,
    )

    -- what stands in a closed order are ABCASTs
    closed_kinds : (p : Pending) → (t.group m.id.group).pending ≡ Some p → (t.process k).standing m.id.group ≡ Member → (e : Entry) →
        Contains (t.closed m.id.group) e → IsAbcast (at t) m.id.group (t.group m.id.group).number e
    closed_kinds p pending member e at_it =
        let x = own_closing home w a t i.0.0.1 i.0.0.3 i.0.0.4 i.0.1 i.1 i.2 in
        let decided = ((own_holds home w a t i.0.0.0).groups m.id.group).pending p pending in
        (i.2.ended m.id.group (t.group m.id.group).number decided.0).kinds e
        (final_had (i.0.0.1 m.id.group ((t.group m.id.group).number + 1)).cut (i.1 m.id.group (t.group m.id.group).number)
        e (subst (λ l. Contains l e) (x.closes m.id.group p k pending member) at_it))

    delivers_begins : (g : GroupNo) (p : Pending) (q : ℕ) → (t.group g).pending ≡ Some p → (t.process q).standing g ≡ Member →
        Contains p.members.list (record { site = t.here; serial = q }) →
        IsPrefix (done_in g (t.group g).number (done_now.abcasts q)) (firsts (t.closed g))
    delivers_begins g p q pending member in_it =
        noted (λ r us. (t.process r).standing g ≡ Member → Contains p.members.list (record { site = t.here; serial = r }) →
        IsPrefix (done_in g (t.group g).number us) (firsts (t.closed g))) (λ r s z. old.begins g p r pending s z)
        (λ atomic s z. elim (cases_Bool (is_in g (t.group g).number m.id)) [
          | inl is ↦
              let two = parts_of_id g (t.group g).number m.id is in
              subst (λ l. IsPrefix l (firsts (t.closed g))) (sym (done_here g (t.group g).number (t.abcasts k) m.id is))
              (subst (λ h. (t.group h).pending ≡ Some p → (t.process k).standing h ≡ Member →
              IsPrefix (done_in h (t.group h).number (t.abcasts k)) (firsts (t.closed h)) →
              IsPrefix (done_in h (t.group h).number (t.abcasts k) ++ entry_of m.id ∷ []) (firsts (t.closed h))) two.0
              (λ e st begin. delivers_closed home w a t i.0.0.0 i.0.0.1 i.0.0.2 i.0.0.3 i.0.0.4 i.0.0.5 i.0.1 k m ready atomic
              (ap (λ (o : Option Pending). elim o as (λ x. Bool) [ Some y ↦ true | None ↦ false ]) e) (closed_kinds p e st) begin)
              pending s (old.begins g p k pending s z))
          | inr other ↦
              subst (λ l. IsPrefix l (firsts (t.closed g))) (sym (done_apart g (t.group g).number (t.abcasts k) m.id other))
              (old.begins g p k pending s z)
        ]) q member in_it
      where
        old : SiteClosing i.0.0.1 (at t) i.0.0.3 i.0.0.4 i.0.1 i.1 a t
        old = own_closing home w a t i.0.0.1 i.0.0.3 i.0.0.4 i.0.1 i.1 i.2

    pub delivers_closing : ClosingNow home w a no_key done_now
    delivers_closing = closing_keep home w a no_key no_key t done_now (later_delivered t k m) i j ext
        (window_delivers home w a t k m i.0.0 ((flush home w a t i.0.0).delivers t k m (begin home w a t i.0.0) c ready)
        (later_delivered t k m) (delivery_tells home w a t k m) i.0.1 i.0.2 c ready).2
        (λ g v. ([], append-nil (i.0.0.3 g v))) (λ g v. inl (refl, refl)) (λ g v s. s)
        delivers_notes delivers_calm (still t done_now (λ g. omega arith))
        (λ x. record {
          closes = λ g p q e s. x.closes g p q e (same_standing q g s);
          begins = λ g p q e s z. delivers_begins g p q e (same_standing q g s) z;
          well = set_all (λ q (l : List Act). Each (CloseWell j.0.1 i.1) l) t.acts k (t.acts k ++ Delivered m ∷ [])
              x.well (each_more (CloseWell j.0.1 i.1) (t.acts k) (Delivered m) (x.well k) tt);
          reports = x.reports;
          decision = x.decision;
          sent = x.sent;
        })

  -- A message is sent

  module _ (t : State) (g : GroupNo) (k : ℕ) (content : Body) (i : ClosingNow home w a no_key t) where
    abbrev m : Message
    m = next_message t g k content

    abbrev sent_now : State
    sent_now = receiving (noting_sent t k m) m

    sent_standing : (q : ℕ) (h : GroupNo) → (sent_now.process q).standing h ≡ Member → (t.process q).standing h ≡ Member
    sent_standing =
        set_all (λ q (p : Process). (h : GroupNo) → p.standing h ≡ Member → (t.process q).standing h ≡ Member)
        t.process k (record (t.process k) { time = m.times }) (λ q h e. e) (λ h e. e)

    sent_here : (j : WindowNow home w a no_key sent_now) → SiteClosing j.0.1 (at sent_now) j.0.3 j.0.4 j.1 i.1 a t →
        SiteClosing j.0.1 (at sent_now) j.0.3 j.0.4 j.1 i.1 a sent_now
    sent_here j x = record {
      closes = λ h p q e s. x.closes h p q e (sent_standing q h s);
      begins = λ h p q e s. x.begins h p q e (sent_standing q h s);
      well = set_all (λ q (l : List Act). Each (CloseWell j.0.1 i.1) l) t.acts k (t.acts k ++ Sent m ∷ [])
          x.well (each_more (CloseWell j.0.1 i.1) (t.acts k) (Sent m) (x.well k) tt);
      reports = x.reports;
      decision = x.decision;
      sent = x.sent;
    }

    sent_calm : Calm t sent_now
    sent_calm h v q s e c p = (sent_standing q h e, c, p, refl)

    sends_closing : is_member ((t.process k).standing g) ≡ true → MaySend t g k content → ClosingNow home w a no_key sent_now
    sends_closing member (casts none open_it) =
        let j : WindowNow home w a no_key sent_now = sends_window home w a t g k content i.0 member (casts none open_it) in
        closing_quiet home w a no_key no_key t sent_now (later_sent t k m) i j
        ((flush home w a t i.0.0).sends t g k content (begin home w a t i.0.0) member (casts none open_it)).3
        refl refl refl refl refl sent_standing (still t sent_now (λ h. omega arith)) (sent_here j)
    sends_closing member (lists held open_it is) =
        let j : WindowNow home w a no_key sent_now = sends_window home w a t g k content i.0 member (lists held open_it is) in
        closing_keep home w a no_key no_key t sent_now (later_sent t k m)
        i j ((flush home w a t i.0.0).sends t g k content (begin home w a t i.0.0) member (lists held open_it is)).3 (λ h v. omega arith)
        (grows home w a t i.0.0.0 i.0.0.1 i.0.0.2 i.0.0.3 i.0.0.4 i.0.0.5 g k content member held open_it is)
        (λ h v. elim (cases_here home w a t i.0.0.0 i.0.0.1 i.0.0.2 i.0.0.3 i.0.0.4 i.0.0.5 g k content member held open_it is h v) [
          | inl two ↦ inr (
            k,
            (λ n. token_at i.0.0.1 i.0.0.4 (sym two.0 n) (two.1 n))
                ∙ has_token home w a t i.0.0.0 i.0.0.1 i.0.0.2 i.0.0.3 i.0.0.4 i.0.0.5 g k content member held open_it is,
            ap (λ z. (t.group z).number) (sym two.0) ∙ sym two.1,
            ap (λ z. (t.group z).frozen) (sym two.0) ∙ open_it,
          )
          | inr same ↦ inl (same, refl)
        ])
        (λ h v s. s) (no_notes t) sent_calm (still t sent_now (λ h. omega arith)) (sent_here j)
    sends_closing member (hands place to held open_it settled is named_it) =
        let j : WindowNow home w a no_key sent_now =
        sends_window home w a t g k content i.0 member (hands place to held open_it settled is named_it) in
        closing_keep home w a no_key no_key t sent_now (later_sent t k m)
        i j ((flush home w a t i.0.0).sends t g k content (begin home w a t i.0.0) member
        (hands place to held open_it settled is named_it)).3
        (widened_up home w a t g k content i.0.0 member place to held open_it settled is i.0.1 i.0.2)
        (λ h v. ([], append-nil (i.0.0.3 h v)))
        (λ h v. elim (hand_cases home w a t i.0.0.0 i.0.0.1 i.0.0.2 i.0.0.3 i.0.0.4 i.0.0.5 g k content place to member held open_it
        settled is h v) [
          | inl two ↦ inr (
            k,
            (λ n. token_at i.0.0.1 i.0.0.4 (sym two.0 n) (two.1 n))
                ∙ hand_token home w a t i.0.0.0 i.0.0.1 i.0.0.2 i.0.0.3 i.0.0.4 i.0.0.5 g k content place to member held open_it settled is,
            ap (λ z. (t.group z).number) (sym two.0) ∙ sym two.1,
            ap (λ z. (t.group z).frozen) (sym two.0) ∙ open_it,
          )
          | inr same ↦ inl (refl, same)
        ])
        (λ h v s. s) (no_notes t) sent_calm (still t sent_now (λ h. omega arith)) (sent_here j)

  join_standing : (t : State) (n : ℕ) (g : GroupNo) (q : ℕ) (h : GroupNo) →
      ((set_standing t n g (Joining ((t.group g).asked + 1) (view_of (t.process n).time g))).process q).standing h ≡ Member →
      (t.process q).standing h ≡ Member
  join_standing t n g = set_all (λ q (p : Process). (h : GroupNo) → p.standing h ≡ Member → (t.process q).standing h ≡ Member) t.process n
      (record (t.process n) {
        standing = set_at group_eq (t.process n).standing g
            (Joining ((t.group g).asked + 1) (view_of (t.process n).time g));
      }) (λ q h e. e)
      (λ h e. asks ((t.process n).standing h) (group_eq g h) ((t.group g).asked + 1) (view_of (t.process n).time g) e)

  pub kept_closing : FullyKept (ClosingNow home w a no_key) (λ g. ClosingNow home w a (is_of_view g)) (λ u. ClosingNow home w a no_key)
      (Arrived home w a) (site_eq a home) true
  unfolding closing_telling
  kept_closing = record {
    telling = closing_telling no_key;
    between = λ g. closing_telling (is_of_view g);
    during = λ u. closing_telling no_key;
    truly = inl (λ t i o c. elim (i.0.4 o c) [ inl e ↦ absurd (false≢true e) | inr owes ↦ owes ]);
    fixed = λ t i. (flush home w a t i.0.0).fixed t (begin home w a t i.0.0);
    opens = λ t i. closing_quiet home w a no_key no_key t (opening_next t) (later_same t) i ((kept_window home w a).opens t i.0)
        ((flush home w a t i.0.0).opens t (begin home w a t i.0.0)).3 refl refl refl refl refl (λ k g e. e)
        (still t (opening_next t) (λ g. omega arith)) (λ x. x);
    answers = λ t g i. group_closing no_key t g (with_answer (t.group g)) (omega arith) i ((kept_window home w a).answers t g i.0)
        ((flush home w a t i.0.0).answers t g (begin home w a t i.0.0)).3 refl refl refl refl (λ e. e) refl;
    joins = λ t k g i open_it known out.
        let u : State = set_standing t k g (Joining ((t.group g).asked + 1) (view_of (t.process k).time g)) in
        closing_quiet home w a no_key no_key t u (later_join t k g (view_of (t.process k).time g))
        i ((kept_window home w a).joins t k g i.0 open_it known out)
        ((flush home w a t i.0.0).joins t k g (begin home w a t i.0.0) open_it known out).3 refl refl refl refl refl
        (join_standing t k g) (still t u (λ h. omega arith)) (λ x. record {
          closes = λ h p q e s. x.closes h p q e (join_standing t k g q h s);
          begins = λ h p q e s. x.begins h p q e (join_standing t k g q h s);
          well = x.well;
          reports = x.reports;
          decision = x.decision;
          sent = x.sent;
        });
    sends = λ t g k content i member may room open_it asked_for. sends_closing t g k content i member may;
    receives = λ t from m i came view member may new.
        closing_quiet home w a no_key no_key t (receiving t m)
        (later_same t) i ((kept_window home w a).receives t from m i.0 came view member may new)
        ((flush home w a t i.0.0).receives t from m (begin home w a t i.0.0) came view member).3
        refl refl refl refl refl (λ k g e. e) (still t (receiving t m) (λ g. omega arith)) (λ x. x);
    received = λ t u i. (closing_telling no_key).pays t (key_eq (message_key kinds.Want u t.config.home)) i;
    acknowledged = λ t from z i came.
        closing_quiet home w a no_key no_key t (noting_ack t from z) (later_same t)
        i ((kept_window home w a).acknowledged t from z i.0 came)
        ((flush home w a t i.0.0).telling.books t t.quotas t.moment (t.acks ++ (from, z) ∷ []) t.told t.owed t.casts t.pushes
        (begin home w a t i.0.0)).3 refl refl refl refl refl (λ k g e. e) (still t (noting_ack t from z) (λ g. omega arith)) (λ x. x);
    learns = λ t from z i came.
        closing_quiet home w a no_key no_key t (noting_stable t z) (later_same t) i ((kept_window home w a).learns t from z i.0 came)
        ((flush home w a t i.0.0).telling.books t t.quotas t.moment t.acks (t.told ++ z ∷ []) t.owed t.casts t.pushes
        (begin home w a t i.0.0)).3 refl refl refl refl refl (λ k g e. e) (still t (noting_stable t z) (λ g. omega arith)) (λ x. x);
    delivers = delivers_closing;
    freezes =
        λ t g i current. group_closing no_key t g (frozen_side (t.group g)) (omega arith) i ((kept_window home w a).freezes t g i.0 current)
        ((flush home w a t i.0.0).freezes t g (begin home w a t i.0.0) current).3 refl refl refl refl (λ e. refl) refl;
    pends = λ t from g p tail i came current waits known. pends_closing home w a t from g p tail i came current waits known;
    passes = λ t g skipped n members request cut i comes. passes_closing home w a t g skipped n members request cut i comes;
    ends = λ t g i.
        let less : State = releasing_ended t g in
        let x : ClosingNow home w a (is_of_view g) less = (closing_telling (is_of_view g)).releases t (is_ended t g) i in
        closing_quiet home w a (is_of_view g) no_key less (paying_view less g) (later_same less) x ((kept_window home w a).ends t g i.0)
        ((flush home w a less x.0.0).telling.books less less.quotas less.moment less.acks less.told (paid (is_of_view g) less.owed)
        less.casts less.pushes (begin home w a less x.0.0)).3 refl refl refl refl refl (λ k h e. e)
        (still less (paying_view less g) (λ h. omega arith)) (λ x_it. x_it);
    homes = homes_closing home w a;
  }
