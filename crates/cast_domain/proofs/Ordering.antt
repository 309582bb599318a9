-- What the records say of the order of a view is so of the history that they stand for: the turns
-- of processes, and what who holds the token has still to list.
-- The claims are `turn_there`, `places_there` and `place_to_pass_there`. The log of a group keeps
-- places and counts where the history keeps lists of ids: a place is how many of the first ids a
-- process has delivered (`all_past`), and what it has to list is the ids behind. So each answer of
-- the records is computed from the log as the history computes it from the lists, once `Fits`
-- holds.
use Rattle.std.proofs.Common.{◌≡◌, ℕ, zero, suc, ◌+◌, ◌-◌, ◌≤◌, max, Bool, true, false, cond, not, List, [], ◌∷◌, ◌++◌, length}
use Rattle.std.proofs.Common.{take, drop, map, Contains, Option, Some, None, refl, sym, ap, subst, ◌∙◌, inl, inr, arith}
use Rattle.std.proofs.lemmas.Bool.Decides.{nat_tests}
use Rattle.std.specs.Prelude.{◌&&◌, ◌==◌, ◌⊎◌, nat_lt, nat_le, is_some, if◌then◌else◌, filter, slice_get}
use Rattle.std.specs.List.{find, list_all}
use Rattle.std.specs.Option.{option_map_or, IsSome}
use Rattle.std.proofs.lemmas.Bool.{cases_Bool, cases_lt, false≢true, and_parts, and_from}
use Rattle.std.proofs.lemmas.Bool.{or_cases, or_left, le-leb, lt-ltb, or_right, eqb-true}
use Rattle.std.proofs.lemmas.List.{length-append, length-map, length-take, length-drop, take-append-drop, drop-append-le}
use Rattle.std.proofs.lemmas.List.Elements.{filter-append}
use Rattle.cast_types.specs.declared.names.SiteNo.{SiteNo}
use Rattle.cast_types.specs.declared.names.GroupNo.{GroupNo}
use Rattle.cast_types.specs.declared.names.Proc.{Proc}
use Rattle.cast_types.specs.declared.names.Uid.{Uid}
use Rattle.cast_types.specs.declared.limits.TheConstants.{MAX_NUMBER, MAX_UNSETTLED, MAX_POSITION}
use Rattle.cast_types.specs.Names.{Entry, group_eq, uid_in, entry_of, entry_eq, uid_eq, site_eq, proc_eq}
use Rattle.cast_types.specs.Sets.{is_among}
use Rattle.cast_types.proofs.Orders.{same_group, group_itself, site_itself, uid_itself}
use Rattle.cast_types.proofs.Rising.{all_kept}
use Rattle.cast_message.specs.declared.message.Received.{Received}
use Rattle.cast_stable.specs.Stable.{stable_upto, was_told, is_known_stable}
use Rattle.cast_stable.specs.Acks.{upto_in}
use Rattle.cast_stable.proofs.Meanings.{upto_meant}
use Rattle.cast_ready.specs.declared.turn.Turn.{Turn}
use Rattle.cast_ready.specs.declared.turn.Turn.TheVariants.{Holding, Following}
use Rattle.cast_ready.specs.Ready.{Process, has_delivered, turn_in, is_member}
use Rattle.cast_delay.specs.Queue.{row_of, passed_in, delivered_in}
use Rattle.cast_types.proofs.Contains.{contains_here, contains_later}
use Rattle.cast_delay.proofs.Queues.{delivered_rules, passed_next}
use Rattle.cast_order.specs.Order.{next_of, place_after, last_listed, settled_places}
use Rattle.cast_order.specs.Hand.{Hand, settled_by}
use Rattle.cast_order.proofs.Closed.{closed_next}
use Rattle.cast_order.proofs.Lists.{all_first, drop_on}
use Rattle.cast_order.specs.Log.{Log, length_of, log_of, next_in, next_places, hand_here, known_past, places_by, place_of}
use Rattle.cast_order.proofs.Meanings.{next_rules as order_next_rules, length_rules, past_rules, assign_rules}
use Rattle.cast_order.proofs.Hands.{settled_rules}
use Rattle.cast_rules.specs.Rules.Room.{may_order}
use Rattle.cast_rules.specs.History.{history}
use Rattle.cast_rules.specs.Resting.{next_places as resting_places, places_of}
use Rattle.cast_domain.specs.declared.record.GroupRecord.{GroupRecord}
use Rattle.cast_view.specs.declared.member.Pending.{Pending}
use Rattle.cast_view.specs.MemberSide.{is_pending, members_of}
use Rattle.cast_view.specs.Home.{is_empty}
use Rattle.cast_rules.specs.State.{State, local, is_group, gate_of, others_of}
use Rattle.cast_rules.specs.Order.{facts_in, order_told, order_of, order_by, holds, sets_order, token_of, lists_of, is_of_view}
use Rattle.cast_rules.specs.Order.{abcasts_delivered, unlisted_ids, settled_to, unsettled_ids, has_place, place_to_pass}
use Rattle.cast_rules.specs.Turns.{has_room_for_order, turn_of}
use Rattle.cast_rules.specs.Lawful.{Waits, IsLawful, IsTraced}
use Rattle.cast_quota.specs.Quotas as quota
use Rattle.cast_domain.specs.Records.{Records}
use Rattle.cast_domain.specs.PartCalls.{place_in, record_at, settled_in}
use Rattle.cast_domain.specs.ReleaseCalls.{settled_at, unsettled_at, place_to_pass_of}
use Rattle.cast_domain.specs.Calls.{records}
use Rattle.cast_domain.specs.RestCalls.{sets_order_at, sets_order_in, has_room_at, turn_at, turns_in}
use Rattle.cast_domain.specs.Fits.{record_for, settled_of, process_named, Fits, TellsOrder, LogFits, is_live, past_of, goes_on, has_passed}
use Rattle.cast_domain.proofs.LogSteps.{none_left}
use Rattle.cast_domain.proofs.Standing.{record_there, place_some, place_none, process_here, member_row}
use Rattle.cast_domain.proofs.Receipts.{live_now}
use Rattle.cast_types.specs.Sources.{source}

-- room for set-order messages
pub order_room_there : (r : Records) (s : State) → Fits r s → may_order records r ≡ may_order history s
order_room_there r s f =
    (λ j. quota.may_order (f.core j).quotas ((sym (length-map r.part.kept (λ (x : Received). x.message)) ∙ ap length f.messages.kept_in) j))

-- who sets the order of a configured group
pub sets_order_there : (r : Records) (s : State) → Fits r s → (g : GroupNo) → is_group s g ≡ true → (k : ℕ) →
    sets_order_in r g (local s k) ≡ sets_order s g k
sets_order_there r s f g listed k = at (place_in r g) refl
  where
    at : (o : Option ℕ) → place_in r g ≡ o →
        option_map_or (λ i. sets_order_at (log_of r.orders (record_at r.groups i).name) (local s k) (record_at r.groups i).here)
        o false ≡ sets_order s g k
    at None is = absurd (false≢true (sym (place_none r s f g is) ∙ listed))
    at (Some i) is =
        ap (λ (x : GroupRecord). sets_order_at (log_of r.orders x.name) (local s k) x.here)
        (record_there r s f i g (place_some r s f g i is).0)
        ∙ ap (λ o. is_some o && not (s.group g).frozen) ((f.orders g).tokens k)

-- how many messages of a process are settled
pub settled_there : (r : Records) (s : State) → Fits r s → (g : GroupNo) (p : Proc) → site_eq p.site s.here ≡ true →
    settled_in r g (s.group g).number p ≡ settled_of s g p
settled_there r s f g p local = at (others_of s g) refl
  where
    n : ℕ
    n = (s.group g).number

    live : is_live s (source g n p) ≡ true
    live = live_now s (source g n p) refl (or_right (is_among proc_eq p (members_of (s.group g))) (site_eq p.site s.here) local)

    at : (others : List SiteNo) → others_of s g ≡ others →
        settled_in r g n p ≡ (if is_empty others then MAX_NUMBER else stable_upto s.acks others g n p)
    at [] is = ap (λ (xs : List SiteNo). if is_empty xs then MAX_NUMBER else upto_in r.acks (uid_in g n (p, 0))) (f.acks.views g ∙ is)
    at (x ∷ others) is =
        ap (λ (xs : List SiteNo). if is_empty xs then MAX_NUMBER else upto_in r.acks (uid_in g n (p, 0))) (f.acks.views g ∙ is)
        ∙ upto_meant (past_of s) r.acks f.acks (uid_in g n (p, 0)) live (λ none. some (sym is ∙ none))
        ∙ ap (λ xs. stable_upto s.acks xs g n p) is
      where
        some : x ∷ others ≡ [] → ⊥
        some none = cc

filter_agree : {A : Type 0} (t u : A → Bool) (xs : List A) → ((x : A) → Contains xs x → t x ≡ u x) → filter t xs ≡ filter u xs
filter_agree t u [] same = refl
filter_agree t u (x ∷ xs) same =
    (λ i. cond (same x (contains_here x xs) i) (x ∷ filter t xs) (filter t xs))
    ∙ ap (λ ys. cond (u x) (x ∷ ys) ys) (filter_agree t u xs (λ y in_it. same y (contains_later y x xs in_it)))

-- a holder's message is stable if it is among the settled ones
stable_settled : (s : State) (g : GroupNo) (k : ℕ) (count : ℕ) → count ≤ MAX_NUMBER → nat_le count (settled_of s g (local s k))
    ≡ is_known_stable s.here (others_of s g) s.acks s.told (uid_in g (s.group g).number (local s k, count))
stable_settled s g k count most = at (others_of s g)
  where
    at : (others : List SiteNo) →
        nat_le count (if is_empty others then MAX_NUMBER else stable_upto s.acks others g (s.group g).number (local s k))
        ≡ is_known_stable s.here others s.acks s.told (uid_in g (s.group g).number (local s k, count))
    at [] = le-leb count MAX_NUMBER most
    at (x ∷ others) =
        sym (ap (λ b. if b then nat_le count (stable_upto s.acks (x ∷ others) g (s.group g).number (local s k))
        else was_told s.told (uid_in g (s.group g).number (local s k, count))) (site_itself s.here))

-- how many places a process has settled
settled_to_there : (r : Records) (s : State) → Fits r s → (g : GroupNo) (k : ℕ) → is_pending (s.group g) ≡ false →
    settled_at r (local s k) (record_for s g) ≡ settled_to s g k
settled_to_there r s f g k none =
    let t = ((f.orders g).tells none).hands k in
    let n : ℕ = settled_of s g (local s k) in
    let h : Hand = hand_here (log_of r.orders g) (local s k) in
    ap (λ m. settled_by m h) (settled_there r s f g (local s k) (site_itself s.here))
    ∙ settled_rules (order_told s g) (token_of s g k) (abcasts_delivered s g k) (lists_of s g k) t.stable h t.fits n t.reached
    ∙ ap (λ ls. settled_places (token_of s g k) (last_listed ls)) (filter_agree (λ x. nat_le x.0 n)
    (λ x. is_known_stable s.here (others_of s g) s.acks s.told (uid_in g (s.group g).number (local s k, x.0))) (lists_of s g k)
    (λ x in_it. stable_settled s g k x.0 (t.counted x in_it)))

-- what a process has to list
pub waiting_there : (s : State) (g : GroupNo) (k : ℕ) (l : Log) → TellsOrder s g l → (hand_here l (local s k)).waiting ≡ unlisted_ids s g k
waiting_there s g k l t = (t.hands k).fits.waiting

-- how many ids are known
known_there : (s : State) (g : GroupNo) (l : Log) → TellsOrder s g l → length_of l ≡ length (order_told s g)
known_there s g l t = length_rules (facts_in s g) (goes_on s g) (has_passed s g) l t.fits

-- What a process has delivered past a place

all_past : {A : Type 0} (t : A → Bool) (n : ℕ) (xs : List A) → list_all t xs ≡ true → list_all t (drop n xs) ≡ true
all_past t n [] all = ap (list_all t) (drop_none n)
  where
    drop_none : {A : Type 0} (n : ℕ) → drop {A = A} n [] ≡ []
    drop_none zero = refl
    drop_none (suc n) = refl
all_past t zero (x ∷ xs) all = all
all_past t (suc n) (x ∷ xs) all = all_past t n xs (and_parts (t x) (list_all t xs) all).1

filter_all : {A : Type 0} (t : A → Bool) (xs : List A) → list_all t xs ≡ true → filter t xs ≡ xs
filter_all t [] all = refl
filter_all t (x ∷ xs) all =
    let parts = and_parts (t x) (list_all t xs) all in
    ap (λ b. cond b (x ∷ filter t xs) (filter t xs)) parts.0 ∙ ap (λ ys. x ∷ ys) (filter_all t xs parts.1)

-- where the first ids all pass, so many of those past a place do as stand between that place and the end of the first, and behind both
passing_past : (t : Entry → Bool) (n base : ℕ) (xs : List Entry) → base ≤ length xs → list_all t (take base xs) ≡ true →
    (base - n) + length (filter t (drop (max base n) xs)) ≡ length (filter t (drop n xs))
passing_past t n base xs within all = elim (cases_lt n base) [
  | inl lt ↦
      let first : List Entry = drop n (take base xs) in
      let split : drop n xs ≡ first ++ drop base xs =
      ap (drop n) (sym (take-append-drop base xs))
      ∙ drop-append-le n (take base xs) (drop base xs) (let len = length-take base xs in omega (arith, len, lt, within)) in
      let whole : length (filter t (drop n xs)) ≡ length first + length (filter t (drop base xs)) =
      ap (λ ys. length (filter t ys)) split
      ∙ ap length (filter-append t first (drop base xs))
      ∙ length-append (filter t first) (filter t (drop base xs))
      ∙ ap (λ ys. length ys + length (filter t (drop base xs))) (filter_all t first (all_past t n (take base xs) all)) in
      let len : length first ≡ length (take base xs) - n = length-drop n (take base xs) in
      let taken = length-take base xs in
      let most : max base n ≡ base = omega (arith, lt) in
      ap (λ m. (base - n) + length (filter t (drop m xs))) most
      ∙ sym (whole ∙ ap (λ m. m + length (filter t (drop base xs))) (omega (arith, len, taken, within)))
  | inr le ↦
      let none : base - n ≡ 0 = omega (arith, le) in
      let most : max base n ≡ n = omega (arith, le) in
      (λ i. none i + length (filter t (drop (most i) xs))) ∙ plus (length (filter t (drop n xs)))
]
  where
    plus : (m : ℕ) → 0 + m ≡ m
    plus m = omega arith

-- what a process noted as delivered it has delivered
named_back : (s : State) (g : GroupNo) (u : Uid) → is_of_view s g u ≡ true → uid_in g (s.group g).number (entry_of u) ≡ u
named_back s g u of_view =
    let parts = and_parts (group_eq u.group g) (u.view == (s.group g).number) of_view in
    λ i. record {
      group = sym (same_group u.group g parts.0) i;
      view = sym (eqb-true u.view (s.group g).number parts.1) i;
      proc = u.proc;
      count = u.count;
    }

noted_delivered : (s : State) (g : GroupNo) (k : ℕ) (us : List Uid) →
    ((u : Uid) → is_among uid_eq u us ≡ true → has_delivered (s.process k) u ≡ true) →
    list_all (λ e. has_delivered (s.process k) (uid_in g (s.group g).number e)) (map entry_of (filter (is_of_view s g) us)) ≡ true
noted_delivered s g k [] each = refl
noted_delivered s g k (u ∷ us) each =
    let rest = noted_delivered s g k us (λ v among. each v (or_right (uid_eq v u) (is_among uid_eq v us) among)) in
    elim (is_of_view s g u) as (λ b. is_of_view s g u ≡ b → list_all (λ e. has_delivered (s.process k) (uid_in g (s.group g).number e))
    (map entry_of (cond b (u ∷ filter (is_of_view s g) us) (filter (is_of_view s g) us))) ≡ true) [
      | true ↦ λ is.
          and_from (has_delivered (s.process k) (uid_in g (s.group g).number (entry_of u))) _
          (ap (has_delivered (s.process k)) (named_back s g u is)
          ∙ each u (or_left (uid_eq u u) (is_among uid_eq u us) (uid_itself u))) rest
      | false ↦ λ _. rest
    ] refl

unlisted_delivered : (s : State) (g : GroupNo) (k : ℕ) → IsTraced s →
    list_all (λ e. has_delivered (s.process k) (uid_in g (s.group g).number e)) (unlisted_ids s g k) ≡ true
unlisted_delivered s g k traced =
    all_kept (λ e. has_delivered (s.process k) (uid_in g (s.group g).number e)) (λ e. not (is_among entry_eq e (order_told s g)))
    (abcasts_delivered s g k)
    (noted_delivered s g k (s.abcasts k) (traced.delivered k))

-- how many ids past the places that it has settled a member has delivered
unsettled_there : (r : Records) (s : State) → Fits r s → IsLawful s → (g : GroupNo) (k : ℕ) → is_pending (s.group g) ≡ false →
    is_member ((s.process k).standing g) ≡ true → unsettled_at r (local s k) (record_for s g) ≡ length (unsettled_ids s g k)
unsettled_there r s f l g k none member =
    (λ i. ((log.base - settled i) + length (filter (asked i) (known_past (settled i) log)))
    + (length (waiting_there s g k log t i) - (settled i - known_there s g log t i)))
    ∙ ap (λ xs. ((log.base - n) + length (filter has xs)) + (length (unlisted_ids s g k) - (n - length order)))
    (past_rules (facts_in s g) (goes_on s g) (has_passed s g) log t.fits n)
    ∙ ap (λ m. m + (length (unlisted_ids s g k) - (n - length order))) (passing_past has n log.base order within forgotten)
    ∙ ap (λ m. length (filter has (drop n order)) + m) (sym (length-drop (n - length order) (unlisted_ids s g k)))
    ∙ ap (λ xs. length (filter has (drop n order)) + length xs) (sym (filter_all has (drop (n - length order) (unlisted_ids s g k))
    (all_past has (n - length order) (unlisted_ids s g k) (unlisted_delivered s g k l.traced))))
    ∙ sym (length-append (filter has (drop n order)) (filter has (drop (n - length order) (unlisted_ids s g k))))
    ∙ ap length (sym (filter-append has (drop n order) (drop (n - length order) (unlisted_ids s g k))))
    ∙ ap (λ xs. length (filter has xs)) (sym (drop_on n order (unlisted_ids s g k)))
  where
    log : Log
    log = log_of r.orders g

    t : TellsOrder s g log
    t = (f.orders g).tells none

    n : ℕ
    n = settled_to s g k

    order : List Entry
    order = order_told s g

    has : Entry → Bool
    has e = has_delivered (s.process k) (uid_in g (s.group g).number e)

    settled : settled_at r (local s k) (record_for s g) ≡ n
    settled = settled_to_there r s f g k none

    row : IsSome (row_of r.delay.rows (local s k))
    row = member_row r s f k g member

    asked : (λ e. delivered_in r.delay (local s k) (uid_in g (s.group g).number e)) ≡ has
    asked = λ i e.
        (delivered_rules s.config.groups (gate_of s) (process_named s) r.part.kept r.delay f.processes.delay (local s k)
        (uid_in g (s.group g).number e) row (omega arith) ∙ ap (λ x. has_delivered x (uid_in g (s.group g).number e)) (process_here s k)) i

    within : log.base ≤ length order
    within = let le = t.fits.forgotten in omega (arith, le)

    passed : list_all (has_passed s g (local s k)) (take (place_of log (local s k)) order) ≡ true
    passed =
        none_left (has_passed s g (local s k)) (take (place_of log (local s k)) order)
        (t.fits.passed (local s k) (ap (λ (x : Process). is_member (x.standing g)) (process_here s k) ∙ member))

    forgotten : list_all has (take log.base order) ≡ true
    forgotten =
        subst (λ x. list_all (λ e. has_delivered x (uid_in g (s.group g).number e)) (take log.base order) ≡ true) (process_here s k)
        (all_first (has_passed s g (local s k)) log.base (place_of log (local s k)) order (omega arith) passed)

-- the known order, while no Install waits
pub order_unclosed : (s : State) (g : GroupNo) → is_pending (s.group g) ≡ false → order_of s g ≡ order_told s g
order_unclosed s g none = ap (λ b. if b then s.closed g else order_told s g) none

-- so many places there are up to the last id that a process has to list
places_by_there : (s : State) (g : GroupNo) (k : ℕ) (l : Log) → TellsOrder s g l → places_by l (local s k) ≡ length (order_by s g k)
places_by_there s g k l t =
    (λ i. known_there s g l t i + length (waiting_there s g k l t i)) ∙ sym (length-append (order_told s g) (unlisted_ids s g k))

-- room for one more ABCAST at a member
room_there : (r : Records) (s : State) → Fits r s → IsLawful s → (g : GroupNo) (k : ℕ) → is_pending (s.group g) ≡ false →
    is_member ((s.process k).standing g) ≡ true → has_room_at r (local s k) (record_for s g) ≡ has_room_for_order s g k
room_there r s f l g k none member =
    let t = (f.orders g).tells none in
    λ i. order_room_there r s f i
    && (nat_lt (unsettled_there r s f l g k none member i) MAX_UNSETTLED
    && nat_lt (places_by_there s g k (log_of r.orders g) t i) MAX_POSITION)

-- the place from which another process would order
pub place_to_pass_there : (r : Records) (s : State) → Fits r s → IsLawful s → (g : GroupNo) (k : ℕ) → is_pending (s.group g) ≡ false →
    is_member ((s.process k).standing g) ≡ true → place_to_pass_of r (local s k) (record_for s g) ≡ place_to_pass s g k
place_to_pass_there r s f l g k none member =
    let t = (f.orders g).tells none in
    (λ i. if (unsettled_there r s f l g k none member i == 0) && nat_lt (places_by_there s g k (log_of r.orders g) t i) MAX_POSITION
    then Some (places_by_there s g k (log_of r.orders g) t i + 1)
    else None)
    ∙ ap (λ b. if b && has_place (order_by s g k) then Some (place_after (order_by s g k)) else None) (no_length (unsettled_ids s g k))
  where
    no_length : (xs : List Entry) → (length xs == 0) ≡ is_empty xs
    no_length [] = refl
    no_length (x ∷ xs) = grind (arith, nat_tests)

-- the next id that a member has not delivered
next_there : (r : Records) (s : State) → Fits r s → (g : GroupNo) (k : ℕ) → IsSome (row_of r.delay.rows (local s k)) →
    is_member ((process_named s (local s k)).standing g) ≡ true → slice_get (next_in (log_of r.orders g) (local s k))
    (passed_in r.delay (local s k) g (s.group g).number (next_in (log_of r.orders g) (local s k)))
    ≡ find (λ e. not (has_delivered (s.process k) (uid_in g (s.group g).number e))) (order_of s g)
next_there r s f g k row member =
    let l : Log = log_of r.orders g in
    let p : Proc = local s k in
    sym (passed_next s.config.groups (gate_of s) (process_named s) r.part.kept r.delay f.processes.delay p g (s.group g).number
    (next_in l p) row (omega arith))
    ∙ sym (next_known (f.orders g))
    ∙ ap (λ x. find (λ e. not (has_delivered x (uid_in g (s.group g).number e))) (order_of s g)) (process_here s k)
  where
    -- of the order as it was told, or of the one that is closed
    next_known : LogFits s g (log_of r.orders g) →
        next_of (has_passed s g (local s k)) (order_of s g) ≡ next_of (has_passed s g (local s k)) (next_in (log_of r.orders g) (local s k))
    next_known fits = elim (cases_Bool (is_pending (s.group g))) [
      | inl waits ↦
          ap (λ b. next_of (has_passed s g (local s k)) (if b then s.closed g else order_told s g)) waits
          ∙ closed_next (s.closed g) (goes_on s g) (has_passed s g) (log_of r.orders g) (fits.closed waits) (local s k) member
      | inr none ↦
          let tells = fits.tells none in
          ap (next_of (has_passed s g (local s k))) (order_unclosed s g none)
          ∙ order_next_rules (facts_in s g) (goes_on s g) (has_passed s g) (log_of r.orders g) tells.fits (local s k) member
    ]

-- no Install waits in a group that no flush has frozen
pub unfrozen_waits : (s : State) → IsLawful s → (g : GroupNo) → not (s.group g).frozen ≡ true → is_pending (s.group g) ≡ false
unfrozen_waits s l g unfrozen = none (s.group g).pending (s.group g).frozen (l.waiting g) unfrozen
  where
    none : (o : Option Pending) (b : Bool) → Waits b o → not b ≡ true → (elim o as (λ _. Bool) [ Some p ↦ true | None ↦ false ]) ≡ false
    none None b waits is = refl
    none (Some p) true waits is = absurd (false≢true is)
    none (Some p) false waits is = absurd (false≢true waits.0)

-- the turn of a member in a group
pub turn_there : (r : Records) (s : State) → Fits r s → IsLawful s → (g : GroupNo) (k : ℕ) → IsSome (row_of r.delay.rows (local s k)) →
    is_member ((process_named s (local s k)).standing g) ≡ true → turn_at r (local s k) (record_for s g) ≡ turn_of s k g
turn_there r s f l g k row member =
    ap (λ o. if is_some o && not (s.group g).frozen then Holding (has_room_at r (local s k) (record_for s g)) else following)
    ((f.orders g).tokens k)
    ∙ elim (cases_Bool (sets_order s g k)) [
      | inl sets ↦
          ap (λ b. if b then Holding (has_room_at r (local s k) (record_for s g)) else following) sets
          ∙ ap Holding (room_there r s f l g k (unfrozen_waits s l g (and_parts (holds s g k) (not (s.group g).frozen) sets).1)
          (ap (λ (x : Process). is_member (x.standing g)) (sym (process_here s k)) ∙ member))
          ∙ sym (ap (λ b. if b then Holding (has_room_for_order s g k)
          else Following (find (λ e. not (has_delivered (s.process k) (uid_in g (s.group g).number e))) (order_of s g))) sets)
      | inr away ↦
          ap (λ b. if b then Holding (has_room_at r (local s k) (record_for s g)) else following) away
          ∙ ap Following (next_there r s f g k row member)
          ∙ sym (ap (λ b. if b then Holding (has_room_for_order s g k)
          else Following (find (λ e. not (has_delivered (s.process k) (uid_in g (s.group g).number e))) (order_of s g))) away)
    ]
  where
    following : Turn
    following =
        Following (slice_get (next_in (log_of r.orders g) (local s k))
        (passed_in r.delay (local s k) g (s.group g).number (next_in (log_of r.orders g) (local s k))))

-- among the turns of all groups stands that of each
find_turn : (f : GroupNo → Turn) (g : GroupNo) (gs : List GroupNo) → is_among group_eq g gs ≡ true →
    option_map_or (λ (t : GroupNo × Turn). t.1) (find (λ t. group_eq t.0 g) (map (λ h. (h, f h)) gs)) (Following None) ≡ f g
find_turn f g [] none = absurd (false≢true none)
find_turn f g (h ∷ gs) is = elim (cases_Bool (group_eq h g)) [
  | inl same ↦
      ap (λ b. option_map_or (λ (t : GroupNo × Turn). t.1) (cond b (Some (h, f h)) (find (λ t. group_eq t.0 g) (map (λ x. (x, f x)) gs)))
      (Following None)) same
      ∙ ap f (same_group h g same)
  | inr apart ↦
      ap (λ b. option_map_or (λ (t : GroupNo × Turn). t.1) (cond b (Some (h, f h)) (find (λ t. group_eq t.0 g) (map (λ x. (x, f x)) gs)))
      (Following None)) apart
      ∙ find_turn f g gs (later apart (or_cases (group_eq g h) (is_among group_eq g gs) is))
]
  where
    later : group_eq h g ≡ false → (group_eq g h ≡ true) ⊎ (is_among group_eq g gs ≡ true) → is_among group_eq g gs ≡ true
    later apart (inl here) = absurd (false≢true (sym apart ∙ ap (group_eq h) (same_group g h here) ∙ group_itself h))
    later apart (inr rest) = rest

map_map : {A B C : Type 0} (f : A → B) (h : B → C) (xs : List A) → map h (map f xs) ≡ map (λ x. h (f x)) xs
map_map f h [] = refl
map_map f h (x ∷ xs) = ap (λ ys. h (f x) ∷ ys) (map_map f h xs)

pub turns_there : (r : Records) (s : State) → Fits r s → IsLawful s → (k : ℕ) → IsSome (row_of r.delay.rows (local s k)) → (g : GroupNo) →
    is_group s g ≡ true → is_member ((process_named s (local s k)).standing g) ≡ true → turn_in (turns_in r (local s k)) g ≡ turn_of s k g
turns_there r s f l k row g listed member =
    let at : List GroupRecord → Turn = λ xs.
    option_map_or (λ (t : GroupNo × Turn). t.1)
    (find (λ t. group_eq t.0 g) (map (λ (x : GroupRecord). (x.name, turn_at r (local s k) x)) xs)) (Following None) in
    ap at f.groups
    ∙ ap (λ ts. option_map_or (λ (t : GroupNo × Turn). t.1) (find (λ t. group_eq t.0 g) ts) (Following None))
    (map_map (record_for s) (λ x. (x.name, turn_at r (local s k) x)) s.config.groups)
    ∙ find_turn (λ h. turn_at r (local s k) (record_for s h)) g s.config.groups listed
    ∙ turn_there r s f l g k row member

-- the places that a process's next set-order message sets
pub places_there : (r : Records) (s : State) → Fits r s → (g : GroupNo) (k : ℕ) → is_pending (s.group g) ≡ false →
    next_places (log_of r.orders g) (local s k) ≡ resting_places s g k
places_there r s f g k none =
    let t = (f.orders g).tells none in
    let h = t.hands k in
    assign_rules (facts_in s g) (goes_on s g) (has_passed s g) (log_of r.orders g) t.fits (token_of s g k) (abcasts_delivered s g k)
    (lists_of s g k) h.stable (local s k) h.fits
    ∙ ap (λ b. if b && has_place (order_told s g) then Some (places_of s g k) else None) (some (unlisted_ids s g k))
  where
    some : (xs : List Entry) → nat_lt 0 (length xs) ≡ not (is_empty xs)
    some [] = refl
    some (x ∷ xs) = lt-ltb 0 (length (x ∷ xs)) (omega arith)
