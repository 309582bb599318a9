-- Every move of one site keeps what holds of orders.
use Rattle.std.proofs.Common.{ap, arith, inl, inr, subst, sym, ◌∙◌}
use Rattle.std.proofs.lemmas.Bool.{false≢true, true≢false}
use Rattle.std.proofs.lemmas.List.Elements.{Contains-append_left, Contains-push_cases}
use Rattle.std.specs.Prelude.{◌+◌, ◌++◌, Bool, Contains, List, Some, [], false, if◌then◌else◌}
use Rattle.std.specs.Prelude.{is_some, length, refl, true, unwrap_or, ℕ, ◌∷◌, ◌≡◌, ◌≤◌, ◌⊎◌}
use Rattle.cast_clock.specs.Times.{view_of}
use Rattle.cast_ready.specs.Ready.{Process, is_member}
use Rattle.cast_rules.specs.Acts.{Act}
use Rattle.cast_rules.specs.Acts.Act.{Delivered, Sent}
use Rattle.cast_rules.specs.Effects.{next_message}
use Rattle.cast_rules.specs.Entering.{passing, pending_install}
use Rattle.cast_rules.specs.Noted.{abcasts_by}
use Rattle.cast_rules.specs.Order.{last_place, told_by}
use Rattle.cast_rules.specs.State.{State, emit, local, noting_sent, outside, receiving, releasing}
use Rattle.cast_rules.specs.State.{set_group, set_home, set_session, set_standing, with_delivery}
use Rattle.cast_rules.specs.Step.{opening_next}
use Rattle.cast_message.specs.Bodies.{kind_of, new_holder}
use Rattle.cast_message.specs.Membership.{Membership}
use Rattle.cast_message.specs.declared.message.Body.{Body}
use Rattle.cast_message.specs.declared.message.Message.{Message}
use Rattle.cast_types.specs.Counts.{CountList}
use Rattle.cast_types.specs.Names.{Entry, group_eq, is_order, site_eq}
use Rattle.cast_types.specs.Sets.{set_at}
use Rattle.cast_types.specs.declared.names.GroupNo.{GroupNo}
use Rattle.cast_types.specs.declared.names.Proc.{Proc}
use Rattle.cast_types.specs.declared.names.SiteNo.{SiteNo}
use Rattle.cast_types.specs.declared.names.Standing.TheVariants.{Joining, Member}
use Rattle.cast_view.specs.Home.{Home, HomeMove, after_ask, after_body, after_installed}
use Rattle.cast_view.specs.Home.{after_report, after_start, after_suspicion, apply_move}
use Rattle.cast_view.specs.Home.HomeMove.{Asked, Brought, Decided, Installed, Reported, Started, Suspected}
use Rattle.cast_view.specs.MemberSide.{MemberSide, frozen_side, is_pending, with_answer, with_pending, with_request}
use Rattle.cast_world.proofs.Entries.{delivery_sends_none, part_sends_none, passing_sends_none}
use Rattle.cast_world.proofs.Facts.{HasDone}
use Rattle.cast_world.proofs.Flush.{numbers}
use Rattle.cast_world.proofs.FlushLaters.{extends_same}
use Rattle.cast_world.proofs.FlushSteps.{FlushNow, kept_flush}
use Rattle.cast_world.proofs.Homes.{HomeFollows, brought_follows, left_follows, reported_follows}
use Rattle.cast_world.proofs.Homes.{request_follows, started_follows, suspicion_follows}
use Rattle.cast_world.proofs.Invariants.{Later, Sites}
use Rattle.cast_world.proofs.Kept.{Kept, MayMove, MaySend, casts, hands, lists}
use Rattle.cast_world.proofs.Laters.{later_same, set_all}
use Rattle.cast_world.proofs.Listings.{no_abcast}
use Rattle.cast_world.proofs.Lists.{done_sent, sent_same}
use Rattle.cast_world.proofs.Moves.{later_delivered, later_group, later_home, later_join, later_part, later_passing, later_sent}
use Rattle.cast_world.proofs.Onward.{asks}
use Rattle.cast_world.proofs.OrderGrows.{longer, told_ordered}
use Rattle.cast_world.proofs.OrderHands.{handed_ordered, next_handed}
use Rattle.cast_world.proofs.OrderLaters.{order_later}
use Rattle.cast_world.proofs.OrderMoves.{OrderNow, delivers_ordered, own_ordered}
use Rattle.cast_world.proofs.OrderPasses.{passes_ordered}
use Rattle.cast_world.proofs.OrderSites.{part_ordered, parts_group, parts_same}
use Rattle.cast_world.proofs.OrderTells.{tells_none}
use Rattle.cast_world.proofs.Orders.{AllOrdered, OneOrdered, SiteOrdered, Stands}
use Rattle.cast_world.proofs.Steps.{Arrived, ahead_at, sites_at}
use Rattle.cast_world.proofs.Tokens.{HasToken, cast_hands_none, cast_last, tells, token_in, token_sends}
use Rattle.cast_world.specs.Network.{Network}

module _ (home : SiteNo) (w : Network) (a : SiteNo) where
  abbrev at : State → Sites
  at t = sites_at home w a t

  abbrev number : State → GroupNo → ℕ
  number t = numbers (sites_at home w a t) home

  abbrev pub Ordered : State → Type 0
  Ordered = OrderNow home w a

  -- what a flush knows, from this moment on
  abbrev pub From : (t : State) → Ordered t → State → Type 0
  From t i = FlushNow home w a i.1 (number t)

  abbrev pub begin : (t : State) (i : Ordered t) → From t i t
  begin t i = (i.0, i.1, i.2, extends_same i.1 (number t))

  -- no process sent a set-order message
  abbrev pub TellsNoMore : State → State → Type 0
  TellsNoMore t u =
      (k : ℕ) (m : Message) → Contains (u.acts k) (Sent m) → Contains (t.acts k) (Sent m) ⊎ (is_order (kind_of m.body) ≡ false)

  -- a move by which no order grows and no token is handed over
  pub kept_all : (t u : State) → Later t u → (i : Ordered t) (r : From t i u) → TellsNoMore t u → SiteOrdered i.3 i.4 u →
      AllOrdered r.1 (number u) (at u) i.3 i.4
  kept_all t u later (now, choice, f, order, handed, x) (now_u, more, fu, ext) old here = record {
    sites = λ s. site s (site_eq a s) (x.sites s);
    told = λ s k m fact c at_it. fact_in s k m fact (site_eq a s) (x.told s k m fact) c at_it;
    placed = λ s k m c. placed_in s k m (site_eq a s) (x.placed s k m) c;
    hands = λ s k m to c names. elim (hands_in s k m to (site_eq a s) (x.hands s k m to) c names) [
      | inl last ↦ inl last
      | inr did ↦
          inr ((ahead_at home w a t u later to.site).did to.serial (Delivered m) did)
    ];
    orders = λ g view. order_later home choice more (at t) (at u) ext (ahead_at home w a t u later) g view (order g view) (handed g view)
        (x.orders g view);
  }
    where
      placed_in : (s : SiteNo) (k : ℕ) (m : Message) (b : Bool) →
          (Contains ((if b then t else w.at s).acts k) (Sent m) → last_place m.body ≤ length (order m.id.group m.id.view)) →
          Contains ((if b then u else w.at s).acts k) (Sent m) → last_place m.body ≤ length (order m.id.group m.id.view)
      placed_in s k m false was c = was c
      placed_in s k m true was c = elim (old k m c) [
        | inl same ↦ was same
        | inr none ↦ (let zero_it = cast_last m.body none in omega (arith, zero_it))
      ]

      hands_in : (s : SiteNo) (k : ℕ) (m : Message) (to : Proc) (b : Bool) →
          (Contains ((if b then t else w.at s).acts k) (Sent m) → new_holder m.body ≡ Some to →
          (handed m.id.group m.id.view ≡ Some m) ⊎ Contains ((at t to.site).acts to.serial) (Delivered m)) →
          Contains ((if b then u else w.at s).acts k) (Sent m) → new_holder m.body ≡ Some to →
          (handed m.id.group m.id.view ≡ Some m) ⊎ Contains ((at t to.site).acts to.serial) (Delivered m)
      hands_in s k m to false was c names = was c names
      hands_in s k m to true was c names = elim (old k m c) [
        | inl same ↦ was same names
        | inr none ↦ absurd (false≢true (ap is_some (sym (cast_hands_none m.body none) ∙ names)))
      ]

      site : (s : SiteNo) (b : Bool) → SiteOrdered order handed (if b then t else w.at s) →
          SiteOrdered order handed (if b then u else w.at s)
      site s true was = here
      site s false was = was

      fact_in : (s : SiteNo) (k : ℕ) (m : Message) (fact : ℕ × Entry) (b : Bool) →
          (Contains ((if b then t else w.at s).acts k) (Sent m) → Contains (told_by m.body) fact →
          Stands (order m.id.group m.id.view) fact) →
          Contains ((if b then u else w.at s).acts k) (Sent m) → Contains (told_by m.body) fact → Stands (order m.id.group m.id.view) fact
      fact_in s k m fact false was c at_it = was c at_it
      fact_in s k m fact true was c at_it = elim (old k m c) [
        | inl same ↦ was same at_it
        | inr none ↦ absurd (let n = subst (λ l. Contains l fact) (tells_none m.body none) at_it in omega (arith, n.1))
      ]

  abbrev pub keep : (t u : State) → Later t u → (i : Ordered t) → From t i u → TellsNoMore t u → SiteOrdered i.3 i.4 u → Ordered u
  keep t u later i r old here = (r.0, r.1, r.2, i.3, i.4, kept_all t u later i r old here)

  pub own : (t : State) (i : Ordered t) → SiteOrdered i.3 i.4 t
  own t i = own_ordered home w a t i.0 i.1 i.2 i.3 i.4 i.5

  abbrev group_keep : (t : State) (g : GroupNo) (v : MemberSide) → (t.group g).asked ≤ v.asked → (i : Ordered t) →
      From t i (set_group t g v) →
      (is_pending v ≡ true → v.frozen ≡ true) →
      (t.group g).number ≤ v.number →
      ((k : ℕ) → tells t.here v g (t.acts k) k ≡ true →
      HasToken (i.4 g v.number) v (local t k) (t.acts k) (unwrap_or (token_in t.here v g (t.acts k) k) 1)) →
      ((k : ℕ) → is_pending v ≡ false → OneOrdered ((t.process k).standing g) (token_in t.here v g (t.acts k) k) (i.3 g v.number)
      g v.number (record { site = t.here; serial = k }) (t.abcasts k) t.got) →
      Ordered (set_group t g v)
  group_keep t g v le i r frozen up token new = keep t (set_group t g v) (later_group t g v le) i r (λ k m c. inl c)
      (parts_group i.3 i.4 t.here t.process t.acts t.abcasts t.group t.got (own t i) g v frozen up token new)

  abbrev pub flush : (t : State) (i : Ordered t) → Kept (From t i) (Arrived home w a) (site_eq a home)
  flush t i = kept_flush home w a i.1 (number t)

  -- Acts that tell nothing

  pub outside_tells : (t : State) (n : ℕ) (g : GroupNo) → TellsNoMore t (outside t n g)
  outside_tells t n g k m c = inl (part_sends_none t n g k m c)

  pub delivery_tells : (t : State) (n : ℕ) (x : Message) → TellsNoMore t (with_delivery t n x)
  delivery_tells t n x k m c = inl (delivery_sends_none t n x k m c)

  pub passing_tells : (t : State) (g : GroupNo) (skipped : Bool) (n : ℕ) (members : Membership) (request : ℕ) (cut : CountList) →
      TellsNoMore t (passing t g skipped n members request cut)
  passing_tells t g skipped n members request cut k m c = inl (passing_sends_none t g skipped n members request cut k m c)

  -- Sending

  module _ (t : State) (g : GroupNo) (n : ℕ) (content : Body) (i : Ordered t) where
    abbrev m : Message
    m = next_message t g n content

    abbrev u : State
    u = receiving (noting_sent t n m) m

    pub sent_or_new : (j : ℕ) (z : Message) → Contains (u.acts j) (Sent z) → Contains (t.acts j) (Sent z) ⊎ (m ≡ z)
    sent_or_new =
        set_all (λ j (l : List Act). (z : Message) → Contains l (Sent z) → Contains (t.acts j) (Sent z) ⊎ (m ≡ z))
        t.acts n (t.acts n ++ Sent m ∷ []) (λ j z c. inl c)
        (λ z c. elim (Contains-push_cases (t.acts n) (Sent m) (Sent z) c) [ inl old ↦ inl old | inr same ↦ inr (sent_same m z same) ])

    pub cast_tells : is_order (kind_of content) ≡ false → TellsNoMore t u
    cast_tells none j z c = elim (sent_or_new j z c) [
      | inl old ↦ inl old
      | inr same ↦ inr (subst (λ (y : Message). is_order (kind_of y.body) ≡ false) same none)
    ]

    pub cast_ordered : is_order (kind_of content) ≡ false → SiteOrdered i.3 i.4 u
    cast_ordered none = parts_same i.3 i.4 t.here t.process t.acts t.abcasts t.group t.got (own t i) u.process u.acts u.got
        (set_all (λ j (l : List Act). abcasts_by (t.acts j) ≡ abcasts_by l) t.acts n (t.acts n ++ Sent m ∷ []) (λ j. refl)
        (no_abcast (t.acts n) (Sent m) refl))
        (set_all (λ j (l : List Act). (z : Message) → HasDone l z → HasDone (t.acts j) z ⊎ (z.id.view ≤ (t.group z.id.group).number))
        t.acts n (t.acts n ++ Sent m ∷ []) (λ j z c. inl c)
        (λ z c. elim (done_sent (t.acts n) m z c) [
          | inl old ↦ inl old
          | inr same ↦ inr (subst (λ (y : Message). y.id.view ≤ (t.group y.id.group).number) same (omega arith))
        ]))
        (later_sent t n m).did
        (λ j h. set_all (λ i (l : List Act). token_in t.here (t.group h) h l i ≡ token_in t.here (t.group h) h (t.acts i) i)
        t.acts n (t.acts n ++ Sent m ∷ []) (λ i. refl) (token_sends t.here (t.group h) h (t.acts n) n m (cast_hands_none content none)) j)
        (set_all (λ j (q : Process). (h : GroupNo) → q.standing h ≡ Member → (t.process j).standing h ≡ Member)
        t.process n (record (t.process n) { time = m.times }) (λ j h e. e) (λ h e. e))
        (λ z c. Contains-append_left t.got (m ∷ []) z c)

    abbrev pub sends_kept : is_member ((t.process n).standing g) ≡ true → MaySend t g n content → Ordered u
    sends_kept member (casts none open_it) =
        keep t u (later_sent t n m) i ((flush t i).sends t g n content (begin t i) member (casts none open_it)) (cast_tells none)
        (cast_ordered none)
    sends_kept member (lists held open_it is) =
        let r : From t i u = (flush t i).sends t g n content (begin t i) member (lists held open_it is) in (
          r.0,
          r.1,
          r.2,
          longer home w a t i.0 i.1 i.2 i.3 i.4 i.5 g n content member held open_it is,
          i.4,
          told_ordered home w a t i.0 i.1 i.2 i.3 i.4 i.5 g n content member held open_it is (later_sent t n m) r.0 r.1 r.2 r.3,
        )
    sends_kept member (hands place to held open_it settled is named_it) =
        let r : From t i u = (flush t i).sends t g n content (begin t i) member (hands place to held open_it settled is named_it) in (
          r.0,
          r.1,
          r.2,
          i.3,
          next_handed home w a t i.0 i.1 i.2 i.3 i.4 i.5 g n content place to member held open_it settled is,
          handed_ordered home w a t i.0 i.1 i.2 i.3 i.4 i.5 g n content place to member held open_it settled is (later_sent t n m)
              r.0 r.1 r.2 r.3,
        )

  -- A home

  abbrev home_keep : (t : State) (g : GroupNo) (h : Home) → (t.home g).number ≤ h.number → (i : Ordered t) → From t i (set_home t g h) →
      Ordered (set_home t g h)
  home_keep t g h le i r = keep t (set_home t g h) (later_home t g h le) i r (λ k m c. inl c) (own t i)

  follows_up : (t : State) (g : GroupNo) (h : Home) → HomeFollows (Arrived home w a) g (t.home g) h → (t.home g).number ≤ h.number
  follows_up t g h f = let same = f.number in omega (arith, same)

  pub moves_up : (t : State) (g : GroupNo) (what : HomeMove) → MayMove (Arrived home w a) t g what →
      (t.home g).number ≤ (apply_move what (t.home g)).number
  moves_up t g (Asked from n what p) may =
      follows_up t g (after_ask (t.home g) from n what p) (request_follows (Arrived home w a) g (t.home g) from n what p may)
  moves_up t g (Suspected site) may =
      follows_up t g (after_suspicion (t.home g) site) (suspicion_follows (Arrived home w a) g (t.home g) site)
  moves_up t g Started may = follows_up t g (after_start (t.home g)) (started_follows (Arrived home w a) g (t.home g))
  moves_up t g (Reported from view r) may =
      follows_up t g (after_report (t.home g) from view r) (reported_follows (Arrived home w a) g (t.home g) from view r may)
  moves_up t g (Brought m) may = follows_up t g (after_body (t.home g) m) (brought_follows (Arrived home w a) g (t.home g) may.0 m may.1)
  moves_up t g Decided may = omega arith
  moves_up t g (Installed from view) may =
      follows_up t g (after_installed (t.home g) from view) (left_follows (Arrived home w a) g (t.home g) from view)

  abbrev home_moves : (t : State) (g : GroupNo) (what : HomeMove) → Ordered t → MayMove (Arrived home w a) t g what →
      Ordered (set_home t g (apply_move what (t.home g)))
  home_moves t g what i may =
      home_keep t g (apply_move what (t.home g)) (moves_up t g what may) i ((flush t i).homes t g what (begin t i) may)

  abbrev pub kept_ordered : Kept Ordered (Arrived home w a) (site_eq a home)
  kept_ordered = record {
    telling = record {
      emits = λ t to fr i says.
          keep t (emit t to fr) (later_same t) i ((flush t i).telling.emits t to fr (begin t i) says) (λ k m c. inl c) (own t i);
      books = λ t quotas moment acks told owed count pushes i.
          keep t (record t { quotas = quotas; moment = moment; acks = acks; told = told; owed = owed; casts = count; pushes = pushes })
          (later_same t) i
          ((flush t i).telling.books t quotas moment acks told owed count pushes (begin t i)) (λ k m c. inl c) (own t i);
      releases = λ t lets i.
          keep t (releasing t lets) (later_same t) i ((flush t i).telling.releases t lets (begin t i)) (λ k m c. inl c) (own t i);
      sets_session = λ t n v i same.
          keep t (set_session t n v) (later_same t) i ((flush t i).telling.sets_session t n v (begin t i) same) (λ k m c. inl c) (own t i);
      parts = λ t n g i. keep t (outside t n g) (later_part t n g) i ((flush t i).telling.parts t n g (begin t i)) (outside_tells t n g)
          (part_ordered i.3 i.4 t (own t i) n g);
      requests = λ t g what p i.
          group_keep t g (with_request (t.group g) what p) (omega arith) i ((flush t i).telling.requests t g what p (begin t i))
          ((own t i).frozen g) (omega arith) (λ k held. (own t i).tokens g k held) (λ k waits. (own t i).ones g k waits);
    };
    fixed = λ t i. (flush t i).fixed t (begin t i);
    opens = λ t i. keep t (opening_next t) (later_same t) i ((flush t i).opens t (begin t i)) (λ k m c. inl c) (own t i);
    answers = λ t g i. group_keep t g (with_answer (t.group g)) (omega arith) i ((flush t i).answers t g (begin t i)) ((own t i).frozen g)
        (omega arith) (λ k held. (own t i).tokens g k held) (λ k waits. (own t i).ones g k waits);
    joins = λ t n g i open_it known out.
        let u : State = set_standing t n g (Joining ((t.group g).asked + 1) (view_of (t.process n).time g)) in
        keep t u (later_join t n g (view_of (t.process n).time g)) i ((flush t i).joins t n g (begin t i) open_it known out)
        (λ k m c. inl c)
        (parts_same i.3 i.4 t.here t.process t.acts t.abcasts t.group t.got (own t i) u.process t.acts t.got (λ k. refl) (λ k m c. inl c)
        (λ k y c. c) (λ k h. refl)
        (set_all (λ j (q : Process). (h : GroupNo) → q.standing h ≡ Member → (t.process j).standing h ≡ Member) t.process n
        (record (t.process n) {
          standing = set_at group_eq (t.process n).standing g
              (Joining ((t.group g).asked + 1) (view_of (t.process n).time g));
        }) (λ j h e. e)
        (λ h e. asks ((t.process n).standing h) (group_eq g h) ((t.group g).asked + 1) (view_of (t.process n).time g) e)) (λ m c. c));
    sends = λ t g n content i member may. sends_kept t g n content i member may;
    receives = λ t from m i came view member.
        keep t (receiving t m) (later_same t) i ((flush t i).receives t from m (begin t i) came view member) (λ k z c. inl c)
        (parts_same i.3 i.4 t.here t.process t.acts t.abcasts t.group t.got (own t i) t.process t.acts (t.got ++ m ∷ []) (λ k. refl)
        (λ k z c. inl c) (λ k y c. c) (λ k h. refl) (λ k g e. e) (λ z c. Contains-append_left t.got (m ∷ []) z c));
    delivers = λ t n m i c ready.
        keep t (with_delivery t n m) (later_delivered t n m) i ((flush t i).delivers t n m (begin t i) c ready) (delivery_tells t n m)
        (delivers_ordered home w a t i.0 i.1 i.2 i.3 i.4 i.5 n m c ready);
    freezes = λ t g i current. group_keep t g (frozen_side (t.group g)) (omega arith) i ((flush t i).freezes t g (begin t i) current)
        (λ e. refl) (omega arith) (λ k held. (own t i).tokens g k held) (λ k waits. (own t i).ones g k waits);
    pends = λ t from g p tail i came current.
        keep t (pending_install t g p tail) (later_group t g (with_pending (t.group g) p) (omega arith))
        i ((flush t i).pends t from g p tail (begin t i) came current) (λ k m c. inl c)
        (parts_group i.3 i.4 t.here t.process t.acts t.abcasts t.group t.got (own t i) g (with_pending (t.group g) p) (λ e. refl)
        (omega arith) (λ k held. (own t i).tokens g k held) (λ k waits. absurd (true≢false waits)));
    passes = λ t g skipped n members request cut i comes.
        let u : State = passing t g skipped n members request cut in
        let r : From t i u = (flush t i).passes t g skipped n members request cut (begin t i) comes in
        keep t u (later_passing t g skipped n members request cut) i r (passing_tells t g skipped n members request cut)
        (passes_ordered home w a t i.0 i.1 i.2 i.3 i.4 i.5 g skipped n members request cut comes r.1 r.2 r.3);
    homes = λ t g what i may. home_moves t g what i may;
  }
