-- A move of one site keeps what holds of acknowledgements and of what sites know of orders.
-- `window_keep` says so of a move by which no one who tells an order delivers: each site knows no
-- less of each order, and no order grows. `window_delivers` is a delivery. Where its process tells
-- the order of its view, all sites know what it has settled, since what is settled is stable; so
-- the part that is known to all may be greater (`wider`), and what it has delivered past that is
-- bounded.
use Rattle.cast_types.proofs.Orders.{group_itself}
use Rattle.std.proofs.Common.{ap, arith, inl, inr, subst, sym, ◌∙◌}
use Rattle.std.proofs.lemmas.Bool.{and_parts, cases_Bool, eq-eqb, eqb-true, false_from_ne_true, false≢true, ltb-false, ltb-true, true≢false}
use Rattle.std.proofs.lemmas.List.{length-append, length_push}
use Rattle.std.specs.Prelude.{◌&&◌, ◌+◌, ◌++◌, ◌<◌, ◌==◌, Bool, Contains, List, Some, [], false}
use Rattle.std.specs.Prelude.{if◌then◌else◌, is_some, length, nat_lt, refl, true, ℕ, ◌∷◌, ◌≡◌, ◌≤◌, ◌⊎◌}
use Rattle.cast_rules.specs.Acts.{Act}
use Rattle.cast_rules.specs.Acts.Act.{Delivered, Sent}
use Rattle.cast_rules.specs.Order.{last_place, told_by}
use Rattle.cast_rules.specs.State.{State, local, with_delivery}
use Rattle.cast_rules.specs.Turns.{is_ready_for}
use Rattle.cast_message.specs.Bodies.{kind_of, new_holder}
use Rattle.cast_message.specs.declared.message.Message.{Message}
use Rattle.cast_message.specs.declared.site.SiteFrame.{SiteFrame}
use Rattle.cast_types.specs.Names.{Entry, entry_of, group_eq, is_atomic, site_eq}
use Rattle.cast_types.specs.Sets.{set_at}
use Rattle.cast_types.specs.declared.limits.TheConstants.{MAX_UNSETTLED}
use Rattle.cast_types.specs.declared.names.GroupNo.{GroupNo}
use Rattle.cast_types.specs.declared.names.Proc.{Proc}
use Rattle.cast_types.specs.declared.names.SiteNo.{SiteNo}
use Rattle.cast_types.specs.declared.names.Standing.TheVariants.{Member}
use Rattle.cast_types.specs.declared.names.Uid.{Uid}
use Rattle.cast_view.specs.MemberSide.{has_view, is_pending, is_process}
use Rattle.cast_world.proofs.Flush.{Choice, Chosen, IsChosen, numbers}
use Rattle.cast_world.proofs.Invariants.{Later, Sites}
use Rattle.cast_world.proofs.Laters.{set_all}
use Rattle.cast_world.proofs.Listings.{done_apart, done_here, parts_of_id}
use Rattle.cast_world.proofs.Lists.{never_nil}
use Rattle.cast_world.proofs.OrderMoves.{OrderNow, had_none, is_member_here}
use Rattle.cast_world.proofs.OrderSteps.{From, TellsNoMore, own}
use Rattle.cast_world.proofs.OrderTells.{has_few, is_open, tells_none}
use Rattle.cast_world.proofs.Orders.{KnowsFirst, Orders, done_in}
use Rattle.cast_world.proofs.Steps.{own_holds, own_is, sites_at}
use Rattle.cast_world.proofs.Tokens.{abcast_hands_none, cast_hands_none, cast_last, tells, token_apart, token_in, token_stays}
use Rattle.cast_world.proofs.WindowTells.{settles, settles_known, settles_near, settles_told}
use Rattle.cast_world.proofs.Windows.{AckTrue, AllWindow, HasGot, Safe}
use Rattle.cast_world.specs.Agreement.{is_in}
use Rattle.cast_world.specs.Network.{Network}
use Rattle.cast_world.specs.declared.step.Packet.{Packet}
use Rattle.cast_message.specs.declared.site.SiteFrame.TheVariants as frame

pub knows_more : (got more : List Message) (g : GroupNo) (v : ℕ) (order : List Entry) (few : ℕ) →
    ((m : Message) → Contains got m → Contains more m) → KnowsFirst got g v order few → KnowsFirst more g v order few
knows_more got more g v order few has k a c e is lt = let m = k a c e is lt in (m.0, has m.0 m.1, m.2, m.3)

pub ack_more : (got more : List Message) → ((m : Message) → Contains got m → Contains more m) → (f : SiteFrame) → AckTrue got f →
    AckTrue more f
ack_more got more has (frame.Data m) k = tt
ack_more got more has (frame.Ack u) k = (k.0, has k.0 k.1, k.2)
ack_more got more has (frame.Stable u) k = tt
ack_more got more has (frame.Ask g number what p) k = tt
ack_more got more has (frame.Asked g number full) k = tt
ack_more got more has (frame.Prepare g view) k = tt
ack_more got more has (frame.Flushed g view counts tail kept) k = tt
ack_more got more has (frame.Want u) k = tt
ack_more got more has (frame.Forward m) k = tt
ack_more got more has (frame.Install g view members request cut tail) k = tt
ack_more got more has (frame.Installed g view) k = tt
ack_more got more has (frame.Out g view) k = tt

module _ (home : SiteNo) (w : Network) (a : SiteNo) where
  abbrev at : State → Sites
  at t = sites_at home w a t

  abbrev number : State → GroupNo → ℕ
  number t = numbers (sites_at home w a t) home

  abbrev pub Packets : State → Type 0
  Packets t = (p : Packet) → Contains w.sent p → AckTrue (at t p.from).got p.frame

  abbrev pub Leading : State → Safe → Type 0
  Leading t safe =
      (g : GroupNo) (k : ℕ) → tells t.here (t.group g) g (t.acts k) k ≡ true → is_pending (t.group g) ≡ false →
      length (done_in g (t.group g).number (t.abcasts k)) ≤ safe g (t.group g).number + MAX_UNSETTLED

  abbrev pub Rising : State → Type 0
  Rising t =
      (k : ℕ) (x y : Message) (e : ℕ × Entry) → Contains (t.acts k) (Sent x) → Contains (t.acts k) (Sent y) → x.id.group ≡ y.id.group →
      x.id.view ≡ y.id.view → x.id.count < y.id.count →
      Contains (told_by y.body) e → last_place x.body < e.0

  -- hand-overs come after places that each site knows
  abbrev pub Handing : State → Safe → Type 0
  Handing t safe =
      (k : ℕ) (m : Message) (to : Proc) → Contains (t.acts k) (Sent m) → new_holder m.body ≡ Some to →
      last_place m.body ≤ safe m.id.group m.id.view

  module _ (t : State) (choice : Choice) (order : Orders) (safe : Safe) (y : AllWindow choice (number t) (at t) order safe) where
    pub own_rising : Rising t
    own_rising = subst Rising (own_is home w a t) (y.rising a)

    pub own_handing : Handing t safe
    own_handing = subst (λ s. Handing s safe) (own_is home w a t) (y.hands a)

    pub own_leading : Leading t safe
    own_leading = subst (λ s. Leading s safe) (own_is home w a t) (y.leads a)

  -- a move
  module _ (t u : State) (later : Later t u) (i : OrderNow home w a t) (r : From home w a t i u) (safe : Safe)
      (y : AllWindow i.1 (number t) (at t) i.3 safe)
      (got : (m : Message) → Contains t.got m → Contains u.got m) where
    got_at : (s : SiteNo) (m : Message) → Contains (at t s).got m → Contains (at u s).got m
    got_at s m = go (site_eq a s)
      where
        go : (b : Bool) → Contains (if b then t else w.at s).got m → Contains (if b then u else w.at s).got m
        go true c = got m c
        go false c = c

    has_at : (s : SiteNo) (z : Uid) → HasGot (at t s).got z → HasGot (at u s).got z
    has_at s z h = (h.0, got_at s h.0 h.1, h.2)

    pub packets_later : Packets t → Packets u
    packets_later old p c = ack_more (at t p.from).got (at u p.from).got (got_at p.from) p.frame (old p c)

    pub window_move : ((q : SiteNo) (z : Uid) → Contains u.acks (q, z) → Contains t.acks (q, z) ⊎ HasGot (at t q).got z) →
        ((to : SiteNo) (f : SiteFrame) → Contains u.frames (to, f) → Contains t.frames (to, f) ⊎ AckTrue t.got f) → Rising u →
        (order : Orders) (wider : Safe) → ((g : GroupNo) (v : ℕ) → safe g v ≤ wider g v) →
        ((g : GroupNo) (v : ℕ) (q : Proc) → v ≤ number u g → IsChosen r.1 g v q →
        KnowsFirst (at t q.site).got g v (order g v) (wider g v)) →
        ((g : GroupNo) (v : ℕ) → wider g v ≤ length (order g v)) →
        ((g : GroupNo) (v : ℕ) → length (order g v) ≤ wider g v + MAX_UNSETTLED) → Leading u wider → Handing u wider →
        AllWindow r.1 (number u) (at u) order wider
    window_move acks frames rising order wider up knows under near leads handing = record {
      acked = λ s q z c. has_at q z (acked_at s q z (site_eq a s) (y.acked s q z) c);
      sent = λ s to f c. sent_at s to f (site_eq a s) (y.sent s to f) c;
      rising = λ s. rising_at s (site_eq a s) (y.rising s);
      knows = λ g v q le chosen.
          knows_more (at t q.site).got (at u q.site).got g v (order g v) (wider g v) (got_at q.site) (knows g v q le chosen);
      under = under;
      near = near;
      leads = λ s. leads_at s (site_eq a s) (y.leads s);
      hands = λ s. hands_at s (site_eq a s) (y.hands s);
    }
      where
        acked_at : (s q : SiteNo) (z : Uid) (b : Bool) → (Contains (if b then t else w.at s).acks (q, z) → HasGot (at t q).got z) →
            Contains (if b then u else w.at s).acks (q, z) → HasGot (at t q).got z
        acked_at s q z true old c = elim (acks q z c) [ inl was ↦ old was | inr new ↦ new ]
        acked_at s q z false old c = old c

        sent_at : (s to : SiteNo) (f : SiteFrame) (b : Bool) →
            (Contains (if b then t else w.at s).frames (to, f) → AckTrue (if b then t else w.at s).got f) →
            Contains (if b then u else w.at s).frames (to, f) → AckTrue (if b then u else w.at s).got f
        sent_at s to f true old c = ack_more t.got u.got got f (elim (frames to f c) [ inl was ↦ old was | inr new ↦ new ])
        sent_at s to f false old c = old c

        rising_at : (s : SiteNo) (b : Bool) → Rising (if b then t else w.at s) → Rising (if b then u else w.at s)
        rising_at s true old = rising
        rising_at s false old = old

        hands_at : (s : SiteNo) (b : Bool) → Handing (if b then t else w.at s) safe → Handing (if b then u else w.at s) wider
        hands_at s true old k m to c names = handing k m to c names
        hands_at s false old k m to c names = let low = old k m to c names in let more = up m.id.group m.id.view in omega (arith, low, more)

        leads_at : (s : SiteNo) (b : Bool) → Leading (if b then t else w.at s) safe → Leading (if b then u else w.at s) wider
        leads_at s true old g k held waits = leads g k held waits
        leads_at s false old g k held waits =
            let low = old g k held waits in let more = up g ((w.at s).group g).number in omega (arith, low, more)

    -- what is told of a view that is decided now: nothing
    pub still_knows : (g : GroupNo) (v : ℕ) (q : Proc) → v ≤ number u g → IsChosen r.1 g v q →
        KnowsFirst (at t q.site).got g v (i.3 g v) (safe g v)
    still_knows g v q le chosen = elim (i.5.orders g v).begun [
      | inl none ↦ λ b c e is lt. absurd (never_nil b c e (sym none.0 ∙ is))
      | inr begun ↦ y.knows g v q begun.decided (subst (λ (c : Chosen). Contains c.members.list q) ((r.3 g).1 v begun.decided) chosen)
    ]

    still_rising : TellsNoMore home w a t u → Rising u
    still_rising old k x z e at_x at_z group view lt told_z = elim (old k z at_z) [
      | inl was_z ↦ elim (old k x at_x) [
        | inl was_x ↦ own_rising t i.1 i.3 safe y k x z e was_x was_z group view lt told_z
        | inr none ↦
            let zero_it = cast_last x.body none in
            let place = (i.5.told a k z e (subst (λ (s : State). Contains (s.acts k) (Sent z)) (sym (own_is home w a t)) was_z) told_z).3 in
            omega (arith, zero_it, place)
      ]
      | inr none ↦ absurd (let n = subst (λ l. Contains l e) (tells_none z.body none) told_z in omega (arith, n.1))
    ]

    still_handing : TellsNoMore home w a t u → (wider : Safe) → ((g : GroupNo) (v : ℕ) → safe g v ≤ wider g v) → Handing u wider
    still_handing old wider up k m to c names = elim (old k m c) [
      | inl was ↦
          (let low = own_handing t i.1 i.3 safe y k m to was names in let more = up m.id.group m.id.view in omega (arith, low, more))
      | inr none ↦ absurd (false≢true (ap is_some (sym (cast_hands_none m.body none) ∙ names)))
    ]

    -- where no order grows, and no one that tells one delivers
    pub window_keep : ((q : SiteNo) (z : Uid) → Contains u.acks (q, z) → Contains t.acks (q, z) ⊎ HasGot (at t q).got z) →
        ((to : SiteNo) (f : SiteFrame) → Contains u.frames (to, f) → Contains t.frames (to, f) ⊎ AckTrue t.got f) →
        TellsNoMore home w a t u → Leading u safe → AllWindow r.1 (number u) (at u) i.3 safe
    window_keep acks frames old leads =
        window_move acks frames (still_rising old) i.3 safe (λ g v. omega arith)
        still_knows y.under y.near leads (still_handing old safe (λ g v. omega arith))

  -- Where who tells an order does something, more of it is known at each site: all that it has settled

  abbrev bigger : ℕ → ℕ → ℕ
  bigger x z = if nat_lt x z then z else x

  bigger_low : (x z : ℕ) → x ≤ bigger x z
  bigger_low x z = go (nat_lt x z) refl
    where
      go : (b : Bool) → nat_lt x z ≡ b → x ≤ (if b then z else x)
      go true e = let lt = ltb-true x z e in omega (arith, lt)
      go false e = omega arith

  bigger_high : (x z : ℕ) → z ≤ bigger x z
  bigger_high x z = go (nat_lt x z) refl
    where
      go : (b : Bool) → nat_lt x z ≡ b → z ≤ (if b then z else x)
      go true e = omega arith
      go false e = let le = ltb-false x z e in omega (arith, le)

  bigger_is : (P : ℕ → Type 0) (x z : ℕ) → P x → P z → P (bigger x z)
  bigger_is P x z one two = go (nat_lt x z)
    where
      go : (b : Bool) → P (if b then z else x)
      go true = two
      go false = one

  module _ (t : State) (i : OrderNow home w a t) (safe : Safe) (y : AllWindow i.1 (number t) (at t) i.3 safe) (g : GroupNo) (k : ℕ)
      (held : tells t.here (t.group g) g (t.acts k) k ≡ true) (waits : is_pending (t.group g) ≡ false)
      (viewed : has_view (t.group g) ≡ true) where
    abbrev v : ℕ
    v = (t.group g).number

    abbrev few : ℕ
    few = settles home w a t i.0 i.1 i.2 i.3 i.4 i.5 safe y g k held waits viewed

    abbrev pub wider : Safe
    wider j z = if group_eq g j && (z == v) then bigger (safe j z) few else safe j z

    at_each : (P : GroupNo → ℕ → ℕ → Type 0) → ((j : GroupNo) (z : ℕ) → P j z (safe j z)) → P g v few → (j : GroupNo) (z : ℕ) →
        P j z (wider j z)
    at_each P all one j z = go (group_eq g j && (z == v)) refl
      where
        go : (b : Bool) → (group_eq g j && (z == v)) ≡ b → P j z (if b then bigger (safe j z) few else safe j z)
        go true e =
            let two = and_parts (group_eq g j) (z == v) e in
            let group : g ≡ j = ap (λ n. record { 0 = n }) (eqb-true g.0 j.0 two.0) in
            let view : v ≡ z = sym (eqb-true z v two.1) in
            bigger_is (P j z) (safe j z) few (all j z) (subst (λ x. P x z few) group (subst (λ x. P g x few) view one))
        go false e = all j z

    pub wider_up : (j : GroupNo) (z : ℕ) → safe j z ≤ wider j z
    wider_up j z = go (group_eq g j && (z == v))
      where
        go : (b : Bool) → safe j z ≤ (if b then bigger (safe j z) few else safe j z)
        go true = bigger_low (safe j z) few
        go false = omega arith

    pub wider_few : few ≤ wider g v
    wider_few =
        subst (λ b. few ≤ (if b then bigger (safe g v) few else safe g v)) (sym (λ i. group_itself g i && eq-eqb v v refl i))
        (bigger_high (safe g v) few)

    pub wider_under : (j : GroupNo) (z : ℕ) → wider j z ≤ length (i.3 j z)
    wider_under =
        at_each (λ h n s. s ≤ length (i.3 h n)) y.under (settles_told home w a t i.0 i.1 i.2 i.3 i.4 i.5 safe y g k held waits viewed)

    pub wider_near : (j : GroupNo) (z : ℕ) → length (i.3 j z) ≤ wider j z + MAX_UNSETTLED
    wider_near j z = let low = y.near j z in let more = wider_up j z in omega (arith, low, more)

    pub wider_knows : (u : State) (later : Later t u) (r : From home w a t i u) → ((m : Message) → Contains t.got m → Contains u.got m) →
        (j : GroupNo) (z : ℕ) (q : Proc) → z ≤ number u j → IsChosen r.1 j z q → KnowsFirst (at t q.site).got j z (i.3 j z) (wider j z)
    wider_knows u later r got j z q le chosen =
        at_each (λ h n s. n ≤ number u h → IsChosen r.1 h n q → KnowsFirst (at t q.site).got h n (i.3 h n) s)
        (λ h n. still_knows t u later i r safe y got h n q)
        (λ _ is. elim (i.5.orders g v).begun [
          | inl none ↦ λ b c e at_it lt. absurd (never_nil b c e (sym none.0 ∙ at_it))
          | inr begun ↦
              settles_known home w a t i.0 i.1 i.2 i.3 i.4 i.5 safe y g k held waits viewed q
              (subst (λ (c : Chosen). Contains c.members.list q) ((r.3 g).1 v begun.decided) is)
        ]) j z le chosen

  -- A delivery
  module _ (t : State) (k : ℕ) (m : Message) (i : OrderNow home w a t) (r : From home w a t i (with_delivery t k m))
      (later : Later t (with_delivery t k m)) (old : TellsNoMore home w a t (with_delivery t k m))
      (safe : Safe) (y : AllWindow i.1 (number t) (at t) i.3 safe) (c : Contains t.got m) (ready : is_ready_for t k m ≡ true) where
    abbrev u : State
    u = with_delivery t k m

    abbrev g : GroupNo
    g = m.id.group

    abbrev n : ℕ
    n = (t.group m.id.group).number

    abbrev me : Proc
    me = local t k

    abbrev Goal : Type 0
    Goal = (more : Safe) × AllWindow r.1 (number u) (at u) i.3 more × ((j : GroupNo) (z : ℕ) → safe j z ≤ more j z)

    pub member : (t.process k).standing m.id.group ≡ Member
    member = is_member_here home w a t i.0 i.1 i.2 i.3 i.4 i.5 k m c ready

    pub viewed : has_view (t.group m.id.group) ≡ true
    viewed = (((own_holds home w a t i.0).ones k).member m.id.group member).1

    -- the other claims of who tells an order
    leads_but : (more : Safe) → ((j : GroupNo) (z : ℕ) → safe j z ≤ more j z) →
        (is_atomic (kind_of m.body) ≡ true → tells t.here (t.group g) g (t.acts k) k ≡ true → is_pending (t.group g) ≡ false →
        length (done_in g n (t.abcasts k)) + 1 ≤ more g n + MAX_UNSETTLED) → Leading u more
    leads_but more up new h j held waits = by (is_process me (new_holder m.body)) refl
      where
        was : (l : ℕ) → tells t.here (t.group h) h (t.acts l) l ≡ true →
            length (done_in h (t.group h).number (t.abcasts l)) ≤ more h (t.group h).number + MAX_UNSETTLED
        was l e = let low = own_leading t i.1 i.3 safe y h l e waits in let high = up h (t.group h).number in omega (arith, low, high)

        grown : is_atomic (kind_of m.body) ≡ true → tells t.here (t.group h) h (t.acts k) k ≡ true →
            length (done_in h (t.group h).number (t.abcasts k ++ m.id ∷ [])) ≤ more h (t.group h).number + MAX_UNSETTLED
        grown atomic e = elim (cases_Bool (is_in h (t.group h).number m.id)) [
          | inl is ↦
              let two = parts_of_id h (t.group h).number m.id is in
              let longer =
              ap length (done_here h (t.group h).number (t.abcasts k) m.id is)
              ∙ length_push (done_in h (t.group h).number (t.abcasts k)) (entry_of m.id) in
              let low =
              subst (λ z. tells t.here (t.group z) z (t.acts k) k ≡ true → is_pending (t.group z) ≡ false →
              length (done_in z (t.group z).number (t.abcasts k)) + 1 ≤ more z (t.group z).number + MAX_UNSETTLED)
              two.0 (new atomic) e waits in
              omega (arith, longer, low)
          | inr other ↦
              (let same = ap length (done_apart h (t.group h).number (t.abcasts k) m.id other) in
              let low = was k e in
              omega (arith, same, low))
        ]

        go : tells t.here (t.group h) h (t.acts j) j ≡ true → (b : Bool) → is_atomic (kind_of m.body) ≡ b →
            length
            (done_in h (t.group h).number ((if b then set_at (λ p q. p == q) t.abcasts k (t.abcasts k ++ m.id ∷ []) else t.abcasts) j))
            ≤ more h (t.group h).number + MAX_UNSETTLED
        go before false e = was j before
        go before true e =
            set_all (λ l (us : List Uid). tells t.here (t.group h) h (t.acts l) l ≡ true →
            length (done_in h (t.group h).number us) ≤ more h (t.group h).number + MAX_UNSETTLED)
            t.abcasts k (t.abcasts k ++ m.id ∷ []) was (grown e) j before

        -- who takes the token has delivered no more than the order
        takes : is_process (local t k) (new_holder m.body) ≡ true → tells t.here (t.group h) h (t.acts k ++ Delivered m ∷ []) k ≡ true →
            length (done_in h (t.group h).number (t.abcasts k)) ≤ more h (t.group h).number + MAX_UNSETTLED
        takes names e = elim (cases_Bool (is_in h (t.group h).number m.id)) [
          | inl is ↦
              let two = parts_of_id h (t.group h).number m.id is in
              subst (λ z. is_pending (t.group z) ≡ false →
              length (done_in z (t.group z).number (t.abcasts k)) ≤ more z (t.group z).number + MAX_UNSETTLED) two.0
              (λ quiet.
              let follows =
              ((own home w a t i).ones m.id.group k quiet).follows member (had_none home w a t i.0 i.1 i.2 i.3 i.4 i.5 k m c ready names) in
              let whole = ap length follows.begins.1 in
              let parts = length-append (done_in m.id.group (t.group m.id.group).number (t.abcasts k)) follows.begins.0 in
              let near = y.near m.id.group (t.group m.id.group).number in
              let high = up m.id.group (t.group m.id.group).number in
              omega (arith, whole, parts, near, high)) waits
          | inr apart ↦ was k (sym (ap is_some (token_apart t.here (t.group h) h (t.acts k) k m apart)) ∙ e)
        ]

        by : (b : Bool) → is_process (local t k) (new_holder m.body) ≡ b →
            length (done_in h (t.group h).number ((with_delivery t k m).abcasts j)) ≤ more h (t.group h).number + MAX_UNSETTLED
        by false other =
            go (sym (ap is_some (set_all (λ l (acts : List Act). token_in t.here (t.group h) h acts l
            ≡ token_in t.here (t.group h) h (t.acts l) l) t.acts k (t.acts k ++ Delivered m ∷ []) (λ l. refl)
            (token_stays t.here (t.group h) h (t.acts k) k m other) j)) ∙ held) (is_atomic (kind_of m.body)) refl
        by true names =
            subst (λ b. length
            (done_in h (t.group h).number ((if b then set_at (λ p q. p == q) t.abcasts k (t.abcasts k ++ m.id ∷ []) else t.abcasts) j))
            ≤ more h (t.group h).number + MAX_UNSETTLED) (sym plain)
            (set_all (λ l (acts : List Act). tells t.here (t.group h) h acts l ≡ true → length (done_in h (t.group h).number (t.abcasts l))
            ≤ more h (t.group h).number + MAX_UNSETTLED) t.acts k (t.acts k ++ Delivered m ∷ []) was (takes names) j held)
          where
            plain : is_atomic (kind_of m.body) ≡ false
            plain =
                false_from_ne_true (is_atomic (kind_of m.body))
                (λ e. false≢true (sym (ap (is_process (local t k)) (abcast_hands_none m.body e)) ∙ names))

    -- it tells the order, and no Install waits
    module _ (held : tells t.here (t.group g) g (t.acts k) k ≡ true) (waits : is_pending (t.group g) ≡ false) where
      abbrev more : Safe
      more = wider t i safe y g k held waits viewed

      up : (j : GroupNo) (z : ℕ) → safe j z ≤ more j z
      up = wider_up t i safe y g k held waits viewed

      pub told_delivers : AllWindow r.1 (number u) (at u) i.3 more
      told_delivers =
          window_move t u later i r safe y (λ z c. c) (λ q z c. inl c) (λ to f c. inl c)
          (still_rising t u later i r safe y (λ z c. c) old) i.3 more up
          (wider_knows t i safe y g k held waits viewed u later r (λ z c. c)) (wider_under t i safe y g k held waits viewed)
          (wider_near t i safe y g k held waits viewed)
          (leads_but more up (λ atomic _ _.
          let near = settles_near home w a t i.0 i.1 i.2 i.3 i.4 i.5 safe y g k held waits viewed in
          let room = has_few t k m tt ready atomic held (is_open t k m tt ready waits) in
          let high = wider_few t i safe y g k held waits viewed in
          omega (arith, near, room, high)))
          (still_handing t u later i r safe y (λ z c. c) old more up)

    pub window_delivers : Goal
    window_delivers = go (tells t.here (t.group g) g (t.acts k) k) refl (is_pending (t.group g)) refl
      where
        same : (tells t.here (t.group g) g (t.acts k) k ≡ true → is_pending (t.group g) ≡ false → ⊥) → (wider : Safe) × AllWindow r.1
            (number (with_delivery t k m)) (at (with_delivery t k m)) i.3 wider × ((j : GroupNo) (z : ℕ) → safe j z ≤ wider j z)
        same never = (
          safe,
          window_keep t (with_delivery t k m) later i r safe y (λ z c. c) (λ q z c. inl c) (λ to f c. inl c)
              old (leads_but safe (λ j z. omega arith) (λ atomic e f. absurd (never e f))),
          (λ j z. omega arith),
        )

        go : (b : Bool) → tells t.here (t.group g) g (t.acts k) k ≡ b → (c : Bool) → is_pending (t.group g) ≡ c →
            (wider : Safe)
            × AllWindow r.1 (number (with_delivery t k m)) (at (with_delivery t k m)) i.3 wider
            × ((j : GroupNo) (z : ℕ) → safe j z ≤ wider j z)
        go true e false f = (more e f, told_delivers e f, up e f)
        go true e true f = same (λ _ no. true≢false (sym f ∙ no))
        go false e c f = same (λ yes_it _. true≢false (sym yes_it ∙ e))
