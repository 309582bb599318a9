-- A delivery leaves each log telling of the order of its view.
-- `logs_deliver` says so. A delivery changes one process. The log of another view, and a message
-- that is no ABCAST, see nothing of it. Within the view, who does not set the order moves over
-- places that it has delivered; who sets it has one more ABCAST to list, behind the others. A
-- hand-over changes the hand of the process that takes the token.
use Rattle.std.proofs.Common.{◌≡◌, ℕ, zero, suc, ◌≤◌, Bool, true, false, cond, not, List, [], ◌∷◌, ◌++◌, map}
use Rattle.std.proofs.Common.{take, drop, Option, Some, None, refl, sym, ap, subst, ◌∙◌, inl, inr, arith}
use Rattle.std.specs.Prelude.{◌&&◌, ◌||◌, ◌==◌, if◌then◌else◌, filter}
use Rattle.std.specs.List.{find, list_all}
use Rattle.std.proofs.lemmas.Bool.{cases_Bool, false≢true, false_from_ne_true, and_parts, or_left, eqb-true, eq-eqb}
use Rattle.std.proofs.lemmas.List.{map-append, append-nil}
use Rattle.std.proofs.lemmas.List.Folds.{list_any-append}
use Rattle.std.proofs.lemmas.Option.{none-some}
use Rattle.cast_types.specs.declared.names.GroupNo.{GroupNo}
use Rattle.cast_types.specs.declared.names.Proc.{Proc}
use Rattle.cast_types.specs.declared.names.Uid.{Uid}
use Rattle.cast_types.specs.Names.{Entry, site_eq, group_eq, proc_eq, entry_eq, uid_eq, is_atomic, uid_in, entry_of}
use Rattle.cast_types.specs.Sets.{is_among, set_at}
use Rattle.cast_types.specs.Counts.{CountList}
use Rattle.cast_types.proofs.Orders.{same_group, site_itself}
use Rattle.cast_clock.specs.Times.{join}
use Rattle.cast_message.specs.declared.message.Body.{Body}
use Rattle.cast_message.specs.declared.message.Body.TheVariants as body
use Rattle.cast_message.specs.declared.message.Message.{Message}
use Rattle.cast_message.specs.Bodies.{kind_of}
use Rattle.cast_message.specs.Placement.{Placement}
use Rattle.cast_ready.specs.Ready.{Process, is_member, has_delivered}
use Rattle.cast_order.specs.Hand.{Hand, hold_from, note_unlisted, FitsHand}
use Rattle.cast_order.specs.Log.{Log, log_of, change_log, next_in, pass_ids, hand_here, with_hand}
use Rattle.cast_order.specs.Fits.{Fits as OrderFits, FitsClosed}
use Rattle.cast_order.proofs.Meanings.{pass_fits, hand_fits, more_fits}
use Rattle.cast_order.proofs.Closed.{closed_pass, closed_more, closed_hand}
use Rattle.cast_order.proofs.Logs.{log_of_change}
use Rattle.cast_ready.specs.Ready.{is_cut_by, is_open_to}
use Rattle.cast_view.specs.declared.member.Pending.{Pending}
use Rattle.cast_view.specs.MemberSide.{is_pending, is_process}
use Rattle.cast_rules.specs.Acts.Act.{Delivered}
use Rattle.cast_rules.specs.State.{State, no_process, local, cut_of, gate_of, with_delivery}
use Rattle.cast_rules.specs.Order.{is_of_view, facts_in, order_told, token_told, token_of, lists_of, holds, sets_order, abcasts_delivered}
use Rattle.cast_domain.specs.declared.rest.Weight.{Weight}
use Rattle.cast_domain.specs.declared.rest.Weight.TheVariants.{Nothing, Placed, Hands}
use Rattle.cast_domain.specs.RestCalls.{told_in, weight_of}
use Rattle.cast_domain.specs.Fits.{process_named, settled_of, goes_on, has_passed, is_still_kept, IsOver, TellsHand, TellsOrder, LogFits}
use Rattle.cast_domain.proofs.Over.{CountsOnIn, over_alike, one_counts_on}
use Rattle.cast_domain.proofs.Logs.{WereMembers, filter_skips, filter_takes, IsAlike, hand_made, hand_alike, log_alike, other_group}
use Rattle.cast_order.proofs.Hands.{KeepsProcess, hold_fits, tell_fits, follow_fits}
use Rattle.cast_domain.proofs.Hands.{own_changed}
use Rattle.cast_domain.proofs.Acting.{by_serial, hands_change, tokens_change, token_acted, token_unacted, lists_acted, lists_unacted}

-- Deliveries

-- what was delivered is delivered still
pub more_delivered : (s : State) (k : ℕ) (m : Message) (p : Proc) (u : Uid) → has_delivered (process_named s p) u ≡ true →
    has_delivered (process_named (with_delivery s k m) p) u ≡ true
more_delivered s k m p u = at (site_eq p.site s.here)
  where
    v : Process
    v = record (s.process k) { time = join (s.process k).time m.times; delivered = (s.process k).delivered ++ m.id ∷ [] }

    now : (b : Bool) → (k == p.serial) ≡ b → has_delivered (s.process p.serial) u ≡ true →
        has_delivered (if b then v else s.process p.serial) u ≡ true
    now false other is = is
    now true same is =
        list_any-append (uid_eq u) (s.process k).delivered (m.id ∷ [])
        ∙ or_left (is_among uid_eq u (s.process k).delivered) (is_among uid_eq u (m.id ∷ []))
        (ap (λ j. has_delivered (s.process j) u) (eqb-true k p.serial same) ∙ is)

    at : (b : Bool) → has_delivered (if b then s.process p.serial else no_process) u ≡ true →
        has_delivered (if b then (with_delivery s k m).process p.serial else no_process) u ≡ true
    at true is = now (k == p.serial) refl is
    at false is = is

-- the members are the same
same_standing : (s : State) (k : ℕ) (m : Message) (g : GroupNo) → WereMembers s (with_delivery s k m) g
same_standing s k m g p = at (site_eq p.site s.here)
  where
    v : Process
    v = record (s.process k) { time = join (s.process k).time m.times; delivered = (s.process k).delivered ++ m.id ∷ [] }

    now : (b : Bool) → (k == p.serial) ≡ b → is_member ((if b then v else s.process p.serial).standing g) ≡ true →
        is_member ((s.process p.serial).standing g) ≡ true
    now false other is = is
    now true same is = ap (λ j. is_member ((s.process j).standing g)) (sym (eqb-true k p.serial same)) ∙ is

    at : (b : Bool) → is_member ((if b then (with_delivery s k m).process p.serial else no_process).standing g) ≡ true →
        is_member ((if b then s.process p.serial else no_process).standing g) ≡ true
    at true is = now (k == p.serial) refl is
    at false is = is

pub none_left : {A : Type 0} (t : A → Bool) (xs : List A) → find (λ x. not (t x)) xs ≡ None → list_all t xs ≡ true
none_left t [] none = refl
none_left t (x ∷ xs) none =
    elim (t x) as (λ b. cond (not b) (Some x) (find (λ y. not (t y)) xs) ≡ None → (b && list_all t xs) ≡ true) [
      | true ↦ λ later. none_left t xs later
      | false ↦ λ found. absurd (none-some x (sym found))
    ] none

-- a group that delivers a message while a flush has frozen it has an Install that waits
frozen_waits : (s : State) (g : GroupNo) (e : Entry) → is_open_to (gate_of s g) e ≡ true → (s.group g).frozen ≡ true →
    is_pending (s.group g) ≡ false → ⊥
frozen_waits s g e opens frozen none =
    false≢true (sym (ap (λ b. not b || is_cut_by (cut_of (s.group g)) e) frozen ∙ nothing (s.group g).pending none) ∙ opens)
  where
    nothing : (o : Option Pending) → (elim o as (λ _. Bool) [ Some p ↦ true | None ↦ false ]) ≡ false →
        is_cut_by (elim o as (λ _. Option CountList) [ Some p ↦ Some p.cut | None ↦ None ]) e ≡ false
    nothing (Some p) none = absurd (false≢true (sym none))
    nothing None none = refl

-- what is over is so still once a process has delivered a message, by which it counts no fewer of its own
delivered_over : (s : State) (k : ℕ) (m : Message) (g : GroupNo) → CountsOnIn s k m g → (e : Entry) → IsOver s g e →
    IsOver (with_delivery s k m) g e
delivered_over s k m g counts =
    let v : Process = record (s.process k) { time = join (s.process k).time m.times; delivered = (s.process k).delivered ++ m.id ∷ [] } in
    over_alike s (with_delivery s k m) g refl refl refl (λ u is. is)
    (one_counts_on s k v g (λ member. record { member = member; counts = counts member }))

no_less : (n : ℕ) → n ≤ n
no_less n = omega arith

-- what is among a list is among its first ones, or the others
parted : (n : ℕ) (xs : List Entry) (e : Entry) →
    is_among entry_eq e xs ≡ (is_among entry_eq e (take n xs) || is_among entry_eq e (drop n xs))
parted zero xs e = refl
parted (suc n) [] e = refl
parted (suc n) (x ∷ xs) e =
    elim (entry_eq e x) as (λ b. (b || is_among entry_eq e xs)
    ≡ ((b || is_among entry_eq e (take n xs)) || is_among entry_eq e (drop n xs))) [ true ↦ refl | false ↦ parted n xs e ]

-- the logs once a process has delivered a message, by what that is to the order of its view: an ABCAST is one more to list for who sets the
-- order, and another process passed so many places
abbrev pub noting : Weight → State → ℕ → Message → ℕ → List Log → List Log
noting Nothing s k m n orders = orders
noting Placed s k m n orders =
    if sets_order s m.id.group k then told_in m.id.group (local s k) (entry_of m.id) orders
    else change_log m.id.group (pass_ids (local s k) n) orders
noting (Hands q first) s k m n orders =
    if proc_eq q (local s k) then change_log m.id.group (with_hand (local s k) (hold_from first)) orders else orders

-- the logs tell of the orders still once a process has delivered a message that is kept, of a current view, and passed places of ids that
-- it has delivered; an ABCAST that it delivered without the token is in the order
pub logs_deliver : (s : State) (k : ℕ) (m : Message) (n : ℕ) (orders : List Log) → ((h : GroupNo) → LogFits s h (log_of orders h)) →
    is_still_kept s m.id ≡ true → is_of_view s m.id.group m.id ≡ true → is_open_to (gate_of s m.id.group) (entry_of m.id) ≡ true →
    (is_atomic (kind_of m.body) ≡ true → holds s m.id.group k ≡ false → is_pending (s.group m.id.group) ≡ false →
    is_among entry_eq (entry_of m.id) (order_told s m.id.group) ≡ true) →
    find (λ e. not (has_passed (with_delivery s k m) m.id.group (local s k) e)) (take n (next_in (log_of orders m.id.group) (local s k)))
    ≡ None → ((g : GroupNo) → CountsOnIn s k m g) → (h : GroupNo) →
    LogFits (with_delivery s k m) h (log_of (noting (weight_of m.body) s k m n orders) h)
logs_deliver s k m n orders fits kept current opens placed passes counts h = at m.body refl
  where
    g : GroupNo
    g = m.id.group

    t : State
    t = with_delivery s k m

    p : Proc
    p = local s k

    e : Entry
    e = entry_of m.id

    l : Log
    l = log_of orders g

    over : (x : GroupNo) → (e : Entry) → IsOver s x e → IsOver t x e
    over x = delivered_over s k m x (counts x)

    passed_on : (x : GroupNo) (q : Proc) (e : Entry) → has_passed s x q e ≡ true → has_passed t x q e ≡ true
    passed_on x q e is = more_delivered s k m q (uid_in x (s.group x).number e) is

    -- what others delivered of a view, and what the process did of another view, or that is no ABCAST
    delivered_other : (x : GroupNo) (j : ℕ) → (k == j) ≡ false → abcasts_delivered t x j ≡ abcasts_delivered s x j
    delivered_other x j apart =
        elim (is_atomic (kind_of m.body)) as (λ b.
        map entry_of (filter (is_of_view s x) ((if b then set_at (λ a c. a == c) s.abcasts k (s.abcasts k ++ m.id ∷ []) else s.abcasts) j))
        ≡ abcasts_delivered s x j) [
          | true ↦ ap (λ b. map entry_of (filter (is_of_view s x) (if b then s.abcasts k ++ m.id ∷ [] else s.abcasts j))) apart
          | false ↦ refl
        ]

    delivered_apart : (x : GroupNo) → is_of_view s x m.id ≡ false → abcasts_delivered t x k ≡ abcasts_delivered s x k
    delivered_apart x apart =
        elim (is_atomic (kind_of m.body)) as (λ b.
        map entry_of (filter (is_of_view s x) ((if b then set_at (λ a c. a == c) s.abcasts k (s.abcasts k ++ m.id ∷ []) else s.abcasts) k))
        ≡ abcasts_delivered s x k) [
          | true ↦
              ap (λ b. map entry_of (filter (is_of_view s x) (if b then s.abcasts k ++ m.id ∷ [] else s.abcasts k))) (eq-eqb k k refl)
              ∙ ap (map entry_of) (filter_skips (is_of_view s x) (s.abcasts k) m.id apart)
          | false ↦ refl
        ]

    delivered_plain : (x : GroupNo) → is_atomic (kind_of m.body) ≡ false → abcasts_delivered t x k ≡ abcasts_delivered s x k
    delivered_plain x plain =
        ap (λ b. map entry_of
        (filter (is_of_view s x) ((if b then set_at (λ a c. a == c) s.abcasts k (s.abcasts k ++ m.id ∷ []) else s.abcasts) k))) plain

    delivered_more : is_atomic (kind_of m.body) ≡ true → abcasts_delivered t g k ≡ abcasts_delivered s g k ++ e ∷ []
    delivered_more atomic =
        ap (λ b. map entry_of
        (filter (is_of_view s g) ((if b then set_at (λ a c. a == c) s.abcasts k (s.abcasts k ++ m.id ∷ []) else s.abcasts) k))) atomic
        ∙ ap (λ b. map entry_of (filter (is_of_view s g) (if b then s.abcasts k ++ m.id ∷ [] else s.abcasts k))) (eq-eqb k k refl)
        ∙ ap (map entry_of) (filter_takes (is_of_view s g) (s.abcasts k) m.id current)
        ∙ map-append entry_of (filter (is_of_view s g) (s.abcasts k)) (m.id ∷ [])

    lists_still : (x : GroupNo) → lists_of t x k ≡ lists_of s x k
    lists_still x = lists_acted s x k (Delivered m) ∙ append-nil (lists_of s x k)

    token_now : token_of t g k ≡ token_told p (token_of s g k) m.body
    token_now = token_acted s g k (Delivered m) ∙ ap (λ b. if b then token_told p (token_of s g k) m.body else token_of s g k) current

    token_plain : (b : Body) → m.body ≡ b → is_atomic (kind_of b) ≡ true → token_of t g k ≡ token_of s g k
    token_plain (body.Causal payload) is atomic = absurd (false≢true atomic)
    token_plain (body.Atomic payload) is atomic = token_now ∙ ap (token_told p (token_of s g k)) is
    token_plain (body.Order q) is atomic = absurd (false≢true atomic)

    -- a log that stays, where the process did the same of its view
    stays : (x : GroupNo) → token_of t x k ≡ token_of s x k → abcasts_delivered t x k ≡ abcasts_delivered s x k →
        LogFits t x (log_of orders x)
    stays x token delivered = log_alike s t x (log_of orders x) alike refl refl (same_standing s k m x) (λ _. over x) (fits x)
      where
        alike : IsAlike s t x (log_of orders x)
        alike = record {
          here = refl;
          view = refl;
          number = refl;
          got = refl;
          tokens = by_serial (λ j. token_of t x j ≡ token_of s x j) k token (λ j apart. token_unacted s x k j (Delivered m) apart);
          lists = by_serial (λ j. lists_of t x j ≡ lists_of s x j) k (lists_still x) (λ j apart. lists_unacted s x k j (Delivered m) apart);
          delivered = by_serial (λ j. abcasts_delivered t x j ≡ abcasts_delivered s x j) k delivered (delivered_other x);
          settled = λ j. no_less (settled_of s x (local s j));
          more = more_delivered s k m;
        }

    stays_apart : group_eq g h ≡ false → LogFits t h (log_of orders h)
    stays_apart apart =
        let other = other_group s h m apart in
        stays h (token_acted s h k (Delivered m) ∙ ap (λ b. if b then token_told p (token_of s h k) m.body else token_of s h k) other)
        (delivered_apart h other)

    stays_plain : is_atomic (kind_of m.body) ≡ false → token_told p (token_of s g k) m.body ≡ token_of s g k → LogFits t h (log_of orders h)
    stays_plain plain token = elim (cases_Bool (group_eq g h)) [
      | inl same ↦ subst (λ x. LogFits t x (log_of orders x)) (same_group g h same) (stays g (token_now ∙ token) (delivered_plain g plain))
      | inr apart ↦ stays_apart apart
    ]

    changed : (f : Log → Log) → ((x : Log) → (f x).group ≡ x.group) → LogFits t g (f l) → LogFits t h (log_of (change_log g f orders) h)
    changed f keeps own =
        subst (LogFits t h) (sym (log_of_change orders g h f keeps))
        (elim (cases_Bool (group_eq g h)) [
          | inl same ↦
              subst (LogFits t h) (sym (ap (λ b. if b then f (log_of orders g) else log_of orders h) same))
              (subst (λ x. LogFits t x (f (log_of orders g))) (same_group g h same) own)
          | inr apart ↦ subst (LogFits t h) (sym (ap (λ b. if b then f (log_of orders g) else log_of orders h) apart)) (stays_apart apart)
        ])

    -- what is told of the order itself
    order_still : TellsOrder s g l → OrderFits (facts_in s g) (goes_on t g) (has_passed t g) l
    order_still x =
        more_fits (facts_in s g) (goes_on s g) (has_passed s g) l x.fits (goes_on t g) (has_passed t g) (same_standing s k m g)
        (passed_on g)

    closed_still : FitsClosed (s.closed g) (goes_on s g) (has_passed s g) l → FitsClosed (t.closed g) (goes_on t g) (has_passed t g) l
    closed_still x =
        closed_more (s.closed g) (goes_on s g) (has_passed s g) l x (goes_on t g) (has_passed t g) (same_standing s k m g) (passed_on g)

    other_hand : TellsOrder s g l → (j : ℕ) → (k == j) ≡ false → TellsHand t g j (hand_here l (local s j))
    other_hand x j apart =
        hand_alike s t g j (hand_here l (local s j)) refl (token_unacted s g k j (Delivered m) apart) (delivered_other g j apart)
        (lists_unacted s g k j (Delivered m) apart)
        (no_less (settled_of s g (local s j))) (x.hands j)

    -- the process's hand is changed
    with_change : (f : Hand → Hand) → KeepsProcess f → (f (hand_here l p)).first ≡ token_of t g k →
        (TellsOrder s g l → TellsHand t g k (f (hand_here l p))) → LogFits t g (with_hand p f l)
    with_change f keeps token own = record {
      tokens = tokens_change s t g l k f keeps token (λ j apart. (fits g).tokens j ∙ sym (token_unacted s g k j (Delivered m) apart));
      own = own_changed s.here p (site_itself s.here) f keeps l.hands (fits g).own;
      tells = λ none. let x : TellsOrder s g l = (fits g).tells none in record {
        fits = hand_fits (facts_in s g) (goes_on t g) (has_passed t g) l (order_still x) p f;
        hands = hands_change s t g l k f keeps (own x) (other_hand x);
        gone = λ e among. over g e (x.gone e among);
      };
      closed = λ waits. closed_hand (t.closed g) (goes_on t g) (has_passed t g) l (closed_still ((fits g).closed waits)) p f;
    }

    -- an ABCAST is in the order known, or not
    not_over : TellsOrder s g l → is_among entry_eq e (take l.base (order_told s g)) ≡ false
    not_over x = false_from_ne_true (is_among entry_eq e (take l.base (order_told s g))) (λ is.
        let view : m.id.view ≡ (s.group g).number =
        eqb-true m.id.view (s.group g).number (and_parts (group_eq g g) (m.id.view == (s.group g).number) current).1 in
        false≢true (sym (x.gone e is).let_go ∙ ap (λ v. is_still_kept s (uid_in g v e)) (sym view) ∙ kept))

    is_known : TellsOrder s g l → is_among entry_eq e l.window ≡ is_among entry_eq e (order_told s g)
    is_known x =
        ap (is_among entry_eq e) x.fits.window
        ∙ ap (λ b. b || is_among entry_eq e (drop l.base (order_told s g))) (sym (not_over x))
        ∙ sym (parted l.base (order_told s g) e)

    own_hand : is_atomic (kind_of m.body) ≡ true → (x : TellsOrder s g l) (h : Hand) →
        FitsHand (order_told s g) (token_of s g k) (abcasts_delivered s g k ++ e ∷ []) (lists_of s g k) (x.hands k).stable h →
        TellsHand t g k h
    own_hand atomic x h good =
        hand_made t g k h (order_told s g) (token_of s g k) (abcasts_delivered s g k ++ e ∷ []) (lists_of s g k)
        refl (token_plain m.body refl atomic) (delivered_more atomic) (lists_still g)
        (x.hands k).stable (x.hands k).reached good (x.hands k).counted

    told_own : is_atomic (kind_of m.body) ≡ true → is_among entry_eq e l.window ≡ false → LogFits t g (with_hand p (note_unlisted e) l)
    told_own atomic unknown =
        with_change (note_unlisted e) (λ h. refl) ((fits g).tokens k ∙ sym (token_plain m.body refl atomic))
        (λ x. own_hand atomic x (note_unlisted e (hand_here l p))
        (tell_fits (order_told s g) (token_of s g k) (abcasts_delivered s g k) (lists_of s g k) (x.hands k).stable (hand_here l p)
        (x.hands k).fits e (sym (is_known x) ∙ unknown)))

    -- one that is in the order is none to list
    follows : is_atomic (kind_of m.body) ≡ true → (x : TellsOrder s g l) → is_among entry_eq e (order_told s g) ≡ true → TellsOrder t g l
    follows atomic x known = record {
      fits = order_still x;
      hands = by_serial (λ j. TellsHand t g j (hand_here l (local s j))) k
          (own_hand atomic x (hand_here l p) (follow_fits (order_told s g) (token_of s g k) (abcasts_delivered s g k) (lists_of s g k)
          (x.hands k).stable (hand_here l p) (x.hands k).fits e known))
          (other_hand x);
      gone = λ e among. over g e (x.gone e among);
    }

    tokens_still : is_atomic (kind_of m.body) ≡ true → (j : ℕ) → (hand_here l (local s j)).first ≡ token_of t g j
    tokens_still atomic =
        by_serial (λ j. (hand_here l (local s j)).first ≡ token_of t g j) k ((fits g).tokens k ∙ sym (token_plain m.body refl atomic))
        (λ j apart. (fits g).tokens j ∙ sym (token_unacted s g k j (Delivered m) apart))

    known_own : is_atomic (kind_of m.body) ≡ true → is_among entry_eq e l.window ≡ true → LogFits t g l
    known_own atomic known = record {
      tokens = tokens_still atomic;
      own = (fits g).own;
      tells = λ none. let x : TellsOrder s g l = (fits g).tells none in follows atomic x (sym (is_known x) ∙ known);
      closed = λ waits. closed_still ((fits g).closed waits);
    }

    all_passed : list_all (has_passed t g p) (take n (next_in l p)) ≡ true
    all_passed = none_left (has_passed t g p) (take n (next_in l p)) passes

    passes_on : is_atomic (kind_of m.body) ≡ true → sets_order s g k ≡ false → LogFits t g (pass_ids p n l)
    passes_on atomic unset = record {
      tokens = tokens_still atomic;
      own = (fits g).own;
      tells = λ none. elim (cases_Bool (holds s g k)) [
        | inl here ↦
            absurd (frozen_waits s g e opens (is_frozen (s.group g).frozen (sym (ap (λ b. b && not (s.group g).frozen) here) ∙ unset)) none)
        | inr away ↦
            let x : TellsOrder t g l = follows atomic ((fits g).tells none) (placed atomic away none) in
            record {
              fits = pass_fits (facts_in t g) (goes_on t g) (has_passed t g) l x.fits p n all_passed;
              hands = x.hands;
              gone = x.gone;
            }
      ];
      closed = λ waits. closed_pass (t.closed g) (goes_on t g) (has_passed t g) l (closed_still ((fits g).closed waits)) p n all_passed;
    }
      where
        is_frozen : (b : Bool) → not b ≡ false → b ≡ true
        is_frozen true is = refl
        is_frozen false is = absurd (false≢true (sym is))

    -- an ABCAST
    atomic_at : is_atomic (kind_of m.body) ≡ true → (c : Bool) → sets_order s g k ≡ c →
        LogFits t h (log_of (if c then told_in g p e orders else change_log g (pass_ids p n) orders) h)
    atomic_at atomic false unset = changed (pass_ids p n) (λ x. refl) (passes_on atomic unset)
    atomic_at atomic true set =
        elim (is_among entry_eq e l.window) as (λ b. is_among entry_eq e l.window ≡ b →
        LogFits t h (log_of (if b then orders else change_log g (with_hand p (note_unlisted e)) orders) h)) [
          | true ↦ λ known. elim (cases_Bool (group_eq g h)) [
            | inl same ↦ subst (λ x. LogFits t x (log_of orders x)) (same_group g h same) (known_own atomic known)
            | inr apart ↦ stays_apart apart
          ]
          | false ↦ λ unknown. changed (with_hand p (note_unlisted e)) (λ x. refl) (told_own atomic unknown)
        ] refl

    -- a hand-over
    handed_at : (q : Placement) (r : Proc) → m.body ≡ body.Order q → q.holder ≡ Some r → (b : Bool) → proc_eq r p ≡ b →
        LogFits t h (log_of (if b then change_log g (with_hand p (hold_from q.first)) orders else orders) h)
    handed_at q r is names false other =
        stays_plain (ap (λ b. is_atomic (kind_of b)) is)
        (ap (token_told p (token_of s g k)) is
        ∙ ap (λ o. if is_process p o then Some q.first else token_of s g k) names
        ∙ ap (λ b. if b then Some q.first else token_of s g k) other)
    handed_at q r is names true this =
        let token : token_of t g k ≡ Some q.first =
        token_now
        ∙ ap (token_told p (token_of s g k)) is
        ∙ ap (λ o. if is_process p o then Some q.first else token_of s g k) names
        ∙ ap (λ b. if b then Some q.first else token_of s g k) this in
        changed (with_hand p (hold_from q.first)) (λ x. refl)
        (with_change (hold_from q.first) (λ x. refl) (sym token)
        (λ x. hand_made t g k (hold_from q.first (hand_here l p)) (order_told s g) (Some q.first) (abcasts_delivered s g k) (lists_of s g k)
        refl token (delivered_plain g (ap (λ b. is_atomic (kind_of b)) is)) (lists_still g)
        (x.hands k).stable (x.hands k).reached
        (hold_fits (order_told s g) (token_of s g k) (abcasts_delivered s g k) (lists_of s g k) (x.hands k).stable (hand_here l p)
        (x.hands k).fits q.first) (x.hands k).counted))

    order_at : (q : Placement) → m.body ≡ body.Order q → (o : Option Proc) → q.holder ≡ o →
        LogFits t h (log_of (noting (elim o [ Some r ↦ Hands r q.first | None ↦ Nothing ]) s k m n orders) h)
    order_at q is None none =
        stays_plain (ap (λ b. is_atomic (kind_of b)) is)
        (ap (token_told p (token_of s g k)) is ∙ ap (λ o. if is_process p o then Some q.first else token_of s g k) none)
    order_at q is (Some r) names = handed_at q r is names (proc_eq r p) refl

    at : (b : Body) → m.body ≡ b → LogFits t h (log_of (noting (weight_of b) s k m n orders) h)
    at (body.Causal payload) is = stays_plain (ap (λ b. is_atomic (kind_of b)) is) (ap (token_told p (token_of s g k)) is)
    at (body.Atomic payload) is = atomic_at (ap (λ b. is_atomic (kind_of b)) is) (sets_order s g k) refl
    at (body.Order q) is = order_at q is q.holder refl
