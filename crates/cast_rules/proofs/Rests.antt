-- Each pass that changes something lowers what is to be done, so the rest ends.
-- The claims are `comes_to_rest` and `rests_at_one`. `Moves s t` says that t is s, or has less to
-- do than s while as many Installs wait, or has fewer Installs that wait. Each part of a pass
-- moves so: a delivery leaves one message less to deliver, a set-order message less to list, a
-- decision a later phase, a Want one key less to be owed; completing an Install lowers the first
-- number. So `moves_pass` holds.
use Rattle.std.proofs.Common.{◌≡◌, ℕ, ◌+◌, ◌*◌, ◌<◌, ◌≤◌, ◌⊎◌, zero, suc, Bool, true, false, not, List, [], ◌∷◌}
use Rattle.std.proofs.Common.{◌++◌, length, Option, Some, None, refl, sym, ap, subst, ◌∙◌, inl, inr, arith}
use Rattle.std.specs.Prelude.{◌&&◌, ◌==◌, nat_lt, if◌then◌else◌, filter}
use Rattle.std.specs.List.{fold, find, list_any, range_with_len}
use Rattle.std.proofs.Math.Nat.{mul-le-mul_left, mul-suc}
use Rattle.std.proofs.lemmas.Bool.{and_parts, eqb-true, eq-eqb, true≢false}
use Rattle.std.proofs.lemmas.List.FromFn.{length-range_with_len}
use Rattle.cast_types.specs.declared.names.GroupNo.{GroupNo}
use Rattle.cast_types.specs.declared.names.Proc.{Proc}
use Rattle.cast_types.specs.declared.names.Uid.{Uid}
use Rattle.cast_types.specs.Names.{group_eq}
use Rattle.cast_types.specs.Repeat.{iterate}
use Rattle.cast_types.specs.Sets.{set_at}
use Rattle.cast_types.proofs.Iterates.{iterate_still}
use Rattle.cast_types.proofs.Orders.{same_group, group_itself}
use Rattle.cast_message.specs.declared.message.Message.{Message}
use Rattle.cast_ready.specs.Ready.{is_member, covered_entries}
use Rattle.cast_types.specs.declared.names.SiteNo.{SiteNo}
use Rattle.cast_types.specs.declared.limits.TheConstants.{MAX_NUMBER, MAX_PLACED}
use Rattle.cast_types.specs.Names.{site_eq, site_cmp}
use Rattle.cast_types.specs.Sets.{with_items}
use Rattle.cast_types.specs.Counts.{CountList}
use Rattle.cast_timer.specs.declared.key.OwedKind.{OwedKind}
use Rattle.cast_timer.specs.declared.key.OwedKind.TheVariants.{Prepare, Install}
use Rattle.cast_view.specs.declared.phase.Phase.{Phase}
use Rattle.cast_view.specs.declared.phase.Phase.TheVariants.{Idle, Gathering, Installing}
use Rattle.cast_view.specs.declared.phase.Decision.{Decision}
use Rattle.cast_view.specs.Home.{Home, HomeMove, apply_move, is_empty, is_idle, is_suspected, may_start, sites_to_await, awaited_of}
use Rattle.cast_view.specs.Home.{waiting_of, may_decide_in, may_decide, decided_list, decision_of, decided_phase, decide_view, installing}
use Rattle.cast_view.specs.Home.HomeMove.{Started, Decided}
use Rattle.cast_view.specs.Sites.{sites_of}
use Rattle.std.specs.Option.{option_map_or}
use Rattle.std.proofs.lemmas.Bool.{cases_Bool, false≢true}
use Rattle.cast_types.specs.Names.{Entry}
use Rattle.cast_timer.specs.declared.key.OwedKey.{OwedKey}
use Rattle.cast_timer.specs.declared.key.Owed.{Owed}
use Rattle.cast_timer.specs.Owed.{is_owed, with_owed, key_eq}
use Rattle.cast_timer.proofs.Owing.{same_key, key_itself, owing_owes, owing_leaves}
use Rattle.cast_view.specs.Home.{wants_in}
use Rattle.cast_rules.specs.Owing.{next_due, noting_owed}
use Rattle.cast_rules.specs.Rules.Owing.{frame_for, send_for, owe}
use Rattle.cast_rules.specs.Rules.Keys.{home_key, want_key}
use Rattle.cast_view.specs.declared.member.Pending.{Pending}
use Rattle.cast_view.specs.MemberSide.{MemberSide, is_pending, with_view}
use Rattle.cast_rules.specs.State.{State, local, serials, emit, set_group, set_home, receiving, with_delivery}
use Rattle.cast_rules.specs.Entering.{putting_out}
use Rattle.cast_rules.specs.Reports.{has_delivered_cut, is_missing, missing_in}
use Rattle.cast_rules.specs.Resting.{resting}
use Rattle.cast_rules.specs.Rules.Asking.{is_home}
use Rattle.cast_rules.specs.History.{history}
use Rattle.cast_rules.specs.Rules.Room.{may_order}
use Rattle.cast_rules.specs.Order.{order_told, unlisted_ids, has_place, holds, holders}
use Rattle.cast_rules.specs.Rules.Sending.{may_raise}
use Rattle.cast_rules.specs.Turns.{is_ready_for}
use Rattle.cast_rules.specs.Effects.{sending_message}
use Rattle.cast_rules.specs.Rules.Home.{owe_of_home, start, wants, want, want_bodies, decide, lead_group, lead}
use Rattle.cast_rules.specs.Rules.Flushes.{own_want_key, complete, want_own, complete_or_want, go_on, go_on_all}
use Rattle.cast_rules.specs.Rest.{deliver_first, deliver_all, settle, set_order_by, set_order, set_orders, pass, RestsAt, let_go}
use Rattle.cast_rules.proofs.Setting.{may_set_order, set_order_is}
use Rattle.cast_rules.specs.Endings.{total, one_if, left_count, rank_of, rank, ranks, undelivered_count}
use Rattle.cast_rules.specs.Endings.{to_list_in, to_list, to_do, home_unowed, site_unowed, unowed_in, unowed_count}
use Rattle.cast_rules.specs.Endings.{pendings, Lessens, Falls, Moves, PassMoves, EachComesToRest, RestIsOne}
use Rattle.cast_rules.proofs.Alikes.{Alike, alike_then, alike_fold, alike_owe, alike_send_for, alike_noting_owed}
use Rattle.cast_rules.proofs.Alikes.{alike_let_go, alike_sending, alike_putting_out, with_next_view, alike_installing}
use Rattle.cast_rules.proofs.Totals.{In, in_take, total_le, total_lt, total_more, one_mono, not_mono, left_push, left_found, left_more}
use Rattle.cast_rules.proofs.Settles.{delivering_one, alike_delivering, delivered_at, ready_new}
use Rattle.cast_rules.proofs.Settles.{delivered_first, delivered_none, iterate_twice}
use Rattle.cast_rules.proofs.Listings.{in_kept, order_message, to_list_delivered, to_list_received, to_list_ordered}

-- what is to be done is seen in what stays alike
pub to_do_alike : (s t : State) → Alike s t → to_do t ≡ to_do s
to_do_alike s t a = λ i. to_do (record s {
  here = a.here i;
  config = a.config i;
  used = a.used i;
  group = a.group i;
  home = a.home i;
  got = a.got i;
  abcasts = a.abcasts i;
  process = λ j. record (s.process j) { delivered = a.delivered j i };
})

-- and in how many groups an Install waits
pub pendings_alike : (s t : State) → Alike s t → pendings t ≡ pendings s
pendings_alike s t a = λ i. pendings (record s { config = a.config i; group = a.group i })

moves_self : (s : State) → Moves s s
moves_self s = record { config = refl; used = refl; way = inl refl }

lessens_then : (s t u : State) → Lessens s t → Lessens t u → Lessens s u
lessens_then s t u (inl a) (inl b) = inl (omega arith)
lessens_then s t u (inl a) (inr b) = let same = b.0 in inl (omega (arith, a, same))
lessens_then s t u (inr a) (inl b) = let same = a.0 in inl (omega (arith, b, same))
lessens_then s t u (inr a) (inr b) = let less = a.1 in let lesser = b.1 in inr (b.0 ∙ a.0, omega (arith, less, lesser))

pub falls_then : (s t u : State) → Falls s t → Falls t u → Falls s u
falls_then s t u (inl a) (inl b) = inl (omega arith)
falls_then s t u (inl a) (inr b) = let same = b.0 in inl (omega (arith, a, same))
falls_then s t u (inr a) (inl b) = let same = a.0 in inl (omega (arith, b, same))
falls_then s t u (inr a) (inr b) = inr (b.0 ∙ a.0, lessens_then s t u a.1 b.1)

-- less is to be done at t, where as many Installs wait, and all that leaves it alike
falls_by : (s t u : State) → Alike t u → pendings t ≡ pendings s → to_do t < to_do s → Falls s u
falls_by s t u a same less = inr (pendings_alike t u a ∙ same, inl (subst (λ n. n < to_do s) (sym (to_do_alike t u a)) less))

way_then : (s t u : State) → (t ≡ s) ⊎ Falls s t → (u ≡ t) ⊎ Falls t u → (u ≡ s) ⊎ Falls s u
way_then s t u (inl a) (inl b) = inl (b ∙ a)
way_then s t u (inl a) (inr b) = inr (subst (λ x. Falls x u) a b)
way_then s t u (inr a) (inl b) = inr (subst (Falls s) (sym b) a)
way_then s t u (inr a) (inr b) = inr (falls_then s t u a b)

pub moves_then : (s t u : State) → Moves s t → Moves t u → Moves s u
moves_then s t u a b = record { config = b.config ∙ a.config; used = b.used ∙ a.used; way = way_then s t u a.way b.way }

moves_if : (s x y : State) (b : Bool) → (b ≡ true → Moves s x) → Moves s y → Moves s (if b then x else y)
moves_if s x y true p q = p refl
moves_if s x y false p q = q

-- over a list, each of whose items moves from any state with these serials and this configuration
pub moves_fold : {X : Type 0} (o : State) (f : State → X → State) (xs : List X) →
    ((x : X) → In x xs → (s : State) → s.used ≡ o.used → s.config ≡ o.config → Moves s (f s x)) → (s : State) → s.used ≡ o.used →
    s.config ≡ o.config → Moves s (fold f s xs)
moves_fold o f [] h s u c = moves_self s
moves_fold o f (x ∷ xs) h s u c =
    let a : Moves s (f s x) = h x (inl refl) s u c in
    moves_then s (f s x) (fold f (f s x) xs) a (moves_fold o f xs (λ y at. h y (inr at)) (f s x) (a.used ∙ u) (a.config ∙ c))

-- what the delivered lists come to
abbrev lists_after : State → ℕ → Message → ℕ → List Uid
lists_after s k m j = if k == j then (s.process k).delivered ++ m.id ∷ [] else (s.process j).delivered

fewer_each : (s : State) (k : ℕ) (m : Message) (j : ℕ) → left_count (lists_after s k m j) s.got ≤ left_count (s.process j).delivered s.got
fewer_each s k m j =
    elim (k == j) as (λ b. k == j ≡ b → left_count (if b then (s.process k).delivered ++ m.id ∷ [] else (s.process j).delivered)
    s.got ≤ left_count (s.process j).delivered s.got) [
      | true ↦ λ at.
          subst (λ i. left_count ((s.process k).delivered ++ m.id ∷ []) s.got ≤ left_count (s.process i).delivered s.got) (eqb-true k j at)
          (left_push m.id (s.process k).delivered s.got)
      | false ↦ λ at. omega arith
    ] refl

undelivered_after : (s : State) (k : ℕ) (m : Message) →
    undelivered_count (with_delivery s k m) ≡ total (λ j. left_count (lists_after s k m j) s.got) (serials s)
undelivered_after s k m = λ i. total (λ j. left_count (delivered_at s k m j i) s.got) (serials s)

undelivered_less : (s : State) (k : ℕ) (m : Message) → In k (serials s) → find (is_ready_for s k) s.got ≡ Some m →
    undelivered_count (with_delivery s k m) < undelivered_count s
undelivered_less s k m at found =
    let here : lists_after s k m k ≡ (s.process k).delivered ++ m.id ∷ [] =
    ap (λ b. if b then (s.process k).delivered ++ m.id ∷ [] else (s.process k).delivered) (eq-eqb k k refl) in
    let less : left_count ((s.process k).delivered ++ m.id ∷ []) s.got < left_count (s.process k).delivered s.got =
    left_found (is_ready_for s k) (s.process k).delivered s.got m (ready_new s k) found in
    subst (λ n. n < undelivered_count s) (sym (undelivered_after s k m))
    (total_lt (λ j. left_count (lists_after s k m j) s.got) (λ j. left_count (s.process j).delivered s.got) (serials s)
    k (fewer_each s k m) at
    (subst (λ ids. left_count ids s.got < left_count (s.process k).delivered s.got) (sym here) less))

-- less of the first is less, where no other is more
less_by_first : (a b c d x y : ℕ) → a < b → d * x ≤ d * y → a + c + d * x < b + c + d * y
less_by_first a b c d x y less le = omega arith

to_do_delivers : (s : State) (k : ℕ) (m : Message) → In k (serials s) → find (is_ready_for s k) s.got ≡ Some m →
    to_do (with_delivery s k m) < to_do s
to_do_delivers s k m at found =
    less_by_first (undelivered_count (with_delivery s k m)) (undelivered_count s) (ranks s) (s.used + 1)
    (to_list (with_delivery s k m)) (to_list s)
    (undelivered_less s k m at found)
    (mul-le-mul_left (s.used + 1)
    (total_le (to_list_in (with_delivery s k m)) (to_list_in s) s.config.groups (to_list_delivered s k m found)))

-- one delivery
moves_first : (s : State) (k : ℕ) → In k (serials s) → Moves s (deliver_first k s)
moves_first s k at =
    elim (find (is_ready_for s k) s.got) as (λ o. find (is_ready_for s k) s.got ≡ o → Moves s (deliver_first k s)) [
      | None ↦ λ e. subst (Moves s) (sym (delivered_none s k e)) (moves_self s)
      | Some m ↦ λ e.
          let a : Alike (with_delivery s k m) (delivering_one s k m) = alike_delivering s k m in
          subst (Moves s) (sym (delivered_first s k m e))
          (record {
            config = a.config;
            used = a.used;
            way = inr (falls_by s (with_delivery s k m) (delivering_one s k m) a refl (to_do_delivers s k m at e));
          })
    ] refl

pub moves_iterate : (n : ℕ) (k : ℕ) (s : State) → In k (serials s) → Moves s (iterate n (deliver_first k) s)
moves_iterate zero k s at = moves_self s
moves_iterate (suc n) k s at =
    let a : Moves s (deliver_first k s) = moves_first s k at in
    moves_then s (deliver_first k s) (iterate n (deliver_first k) (deliver_first k s)) a
    (moves_iterate n k (deliver_first k s) (subst (λ u. In k (range_with_len 1 u)) (sym a.used) at))

pub moves_settle : (s : State) → Moves s (settle s)
moves_settle s = moves_fold s deliver_all (serials s)
    (λ k at t u c. moves_iterate (length t.got) k t (subst (λ n. In k (range_with_len 1 n)) (sym u) at)) s refl refl

-- Set-order messages

-- one more message is one more for each process at the most
undelivered_more : (s : State) (m : Message) → undelivered_count (receiving s m) ≤ undelivered_count s + s.used
undelivered_more s m =
    let more =
    total_more (λ k. left_count (s.process k).delivered (s.got ++ m ∷ [])) (λ k. left_count (s.process k).delivered s.got) (serials s)
    (λ k. left_more (s.process k).delivered m s.got) in
    omega (arith, more, length-range_with_len 1 s.used)

-- less of the last is less, where the first is not much more
less_by_last : (a b c u x y : ℕ) → a ≤ b + u → x < y → a + c + (u + 1) * x < b + c + (u + 1) * y
less_by_last a b c u x y le less =
    let times : (u + 1) * suc x ≤ (u + 1) * y = mul-le-mul_left (u + 1) (omega arith) in
    omega (arith, times, mul-suc (u + 1) x)

to_do_orders : (s : State) (g : GroupNo) (k : ℕ) → In g s.config.groups → In k (serials s) → has_place (order_told s g) ≡ true →
    not (is_empty (unlisted_ids s g k)) ≡ true → to_do (receiving s (order_message s g k)) < to_do s
to_do_orders s g k at given place some =
    let m : Message = order_message s g k in
    less_by_last (undelivered_count (receiving s m)) (undelivered_count s) (ranks s) s.used (to_list (receiving s m)) (to_list s)
    (undelivered_more s m)
    (total_lt (to_list_in (receiving s m)) (to_list_in s) s.config.groups g (to_list_received s m refl)
    at (to_list_ordered s g k given place some))

-- there is something to list where a set-order message may be sent, and a place for it
listing : (s : State) (g : GroupNo) (k : ℕ) → may_set_order s g k ≡ true →
    (not (is_empty (unlisted_ids s g k)) && (has_place (order_told s g) && may_raise (s.process k).time g (local s k))) ≡ true
listing s g k may =
    let a = and_parts (is_member ((s.process k).standing g)) _ may in
    let b = and_parts (not (s.group g).frozen) _ a.1 in
    (and_parts (may_order history s) _ b.1).1

has_unlisted : (s : State) (g : GroupNo) (k : ℕ) → may_set_order s g k ≡ true → not (is_empty (unlisted_ids s g k)) ≡ true
has_unlisted s g k may = (and_parts (not (is_empty (unlisted_ids s g k))) _ (listing s g k may)).0

has_next : (s : State) (g : GroupNo) (k : ℕ) → may_set_order s g k ≡ true → has_place (order_told s g) ≡ true
has_next s g k may = (and_parts (has_place (order_told s g)) _ (and_parts (not (is_empty (unlisted_ids s g k))) _ (listing s g k may)).1).0

pub falls_order : (s : State) (g : GroupNo) (k : ℕ) → In g s.config.groups → In k (serials s) → may_set_order s g k ≡ true →
    Falls s (let_go (sending_message s k (order_message s g k)))
falls_order s g k at given may =
    let m : Message = order_message s g k in
    let t : State = sending_message s k m in
    let a : Alike (receiving s m) (let_go t) = alike_then (receiving s m) t (let_go t) (alike_sending s g k m.body) (alike_let_go t) in
    falls_by s (receiving s m) (let_go t) a refl (to_do_orders s g k at given (has_next s g k may) (has_unlisted s g k may))

pub moves_set_order_by : (s : State) (g : GroupNo) (k : ℕ) → In g s.config.groups → In k (serials s) → Moves s (set_order_by s g k)
moves_set_order_by s g k at given =
    let m : Message = order_message s g k in
    let t : State = sending_message s k m in
    let a : Alike (receiving s m) (let_go t) = alike_then (receiving s m) t (let_go t) (alike_sending s g k m.body) (alike_let_go t) in
    subst (Moves s) (sym (set_order_is s g k))
    (moves_if s (let_go t) s (may_set_order s g k)
    (λ may. record { config = a.config; used = a.used; way = inr (falls_order s g k at given may) })
    (moves_self s))

pub moves_set_order : (s : State) (g : GroupNo) → In g s.config.groups → Moves s (set_order s g)
moves_set_order s g at =
    moves_fold s (λ t k. set_order_by t g k) (holders s g)
    (λ k there t u c. moves_set_order_by t g k (subst (λ x. In g x.groups) (sym c) at)
    (subst (λ n. In k (range_with_len 1 n)) (sym u) (in_kept (holds s g) (serials s) k there).1)) s refl refl

pub moves_set_orders : (s : State) → Moves s (set_orders s)
moves_set_orders s =
    moves_fold s set_order s.config.groups (λ g at t u c. moves_set_order t g (subst (λ x. In g x.groups) (sym c) at)) s refl refl

-- One place

weaker : (a b : ℕ) → a < b → a ≤ b
weaker a b h = omega arith

-- a number that is no greater at one place is no greater at any
at_group_le : {V : Type 0} (f : V → ℕ) (t : GroupNo → V) (g : GroupNo) (v : V) → f v ≤ f (t g) → (h : GroupNo) →
    f (set_at group_eq t g v h) ≤ f (t h)
at_group_le f t g v le h =
    elim (group_eq g h) as (λ b. group_eq g h ≡ b → f (if b then v else t h) ≤ f (t h)) [
      | true ↦ λ at. subst (λ i. f v ≤ f (t i)) (same_group g h at) le
      | false ↦ λ at. omega arith
    ] refl

at_group_lt : {V : Type 0} (f : V → ℕ) (t : GroupNo → V) (g : GroupNo) (v : V) → f v < f (t g) → f (set_at group_eq t g v g) < f (t g)
at_group_lt f t g v lt = subst (λ b. f (if b then v else t g) < f (t g)) (sym (group_itself g)) lt

-- The home

-- the home moves on
home_less : (s : State) (g : GroupNo) (h : Home) → In g s.config.groups → rank h < rank (s.home g) → to_do (set_home s g h) < to_do s
home_less s g h at less =
    plus_less (undelivered_count s) (ranks (set_home s g h)) (ranks s) ((s.used + 1) * to_list s)
    (total_lt (λ i. rank (set_at group_eq s.home g h i)) (λ i. rank (s.home i)) s.config.groups g
    (at_group_le rank s.home g h (weaker _ _ less)) at
    (at_group_lt rank s.home g h less))
  where
    plus_less : (a x y b : ℕ) → x < y → a + x + b < a + y + b
    plus_less a x y b h = omega arith

started_rank : (p : Phase) (calm none : Bool) → is_idle p ≡ true → not none ≡ true → ◌<◌ (if calm then 1 else 3) (rank_of p calm none)
started_rank Idle calm true idle some = absurd (true≢false (sym some))
started_rank Idle true false idle some = omega arith
started_rank Idle false false idle some = omega arith
started_rank (Gathering awaited reports bodies) calm none idle some = absurd (true≢false (sym idle))
started_rank (Installing waiting decision bodies) calm none idle some = absurd (true≢false (sym idle))

pub started_less : (h : Home) → may_start h ≡ true → rank (apply_move Started h) < rank h
started_less h may =
    let a = and_parts (is_idle h.phase) _ may in
    let b = and_parts (nat_lt h.number MAX_NUMBER) _ a.1 in
    subst (λ c. rank (if c then record h { phase = Gathering (sites_to_await h) [] [] } else h) < rank h) (sym may)
    (started_rank h.phase (is_empty h.suspected) (is_empty h.joins && (is_empty h.leavings && is_empty h.suspected)) a.0 b.1)

-- a decision has the phase after it, or none where no site is waited for
decided_rank : (sites : List SiteNo) (d : Decision) (bodies : List Message) (calm empty : Bool) → (calm ≡ true → empty ≡ true) →
    rank_of (installing sites d bodies) true (empty && true) < (if calm then 1 else 3)
decided_rank [] d bodies true empty left_none = subst (λ b. ◌<◌ (if b && true then 0 else 2) 1) (sym (left_none refl)) (omega arith)
decided_rank [] d bodies false true left_none = omega arith
decided_rank [] d bodies false false left_none = omega arith
decided_rank (s ∷ sites) d bodies true empty left_none = omega arith
decided_rank (s ∷ sites) d bodies false empty left_none = omega arith

none_suspected : (suspected : List SiteNo) (joins : List Proc) → is_empty suspected ≡ true →
    is_empty (filter (λ p. list_any (site_eq p.site) suspected) joins) ≡ true
none_suspected (s ∷ suspected) joins e = absurd (true≢false (sym e))
none_suspected [] [] e = refl
none_suspected [] (p ∷ joins) e = none_suspected [] joins e

pub decided_less : (g : GroupNo) (h : Home) → may_decide g h ≡ true → rank (decide_view h) < rank h
decided_less g h may = of_phase h.phase may
  where
    calm : Bool
    calm = is_empty h.suspected

    empty : Bool
    empty = is_empty (filter (λ p. is_suspected h p.site) h.joins)

    of_phase : (p : Phase) → may_decide_in g h p ≡ true → rank_of (decided_phase h (decided_list h) p) true (empty && true) < rank_of p calm
        (is_empty h.joins && (is_empty h.leavings && calm))
    of_phase Idle e = absurd (true≢false (sym e))
    of_phase (Gathering awaited reports bodies) e =
        decided_rank (with_items site_cmp (sites_of (decided_list h)) awaited) (decision_of h reports)
        bodies calm empty (none_suspected h.suspected h.joins)
    of_phase (Installing waiting decision bodies) e = absurd (true≢false (sym e))

-- the home moves on, and owes frames
pub falls_led : (s : State) (g : GroupNo) (move : HomeMove) (kind : OwedKind) (sites : List SiteNo) → In g s.config.groups →
    rank (apply_move move (s.home g)) < rank (s.home g) →
    Falls s (fold (owe_of_home history kind g) (set_home s g (apply_move move (s.home g))) sites)
falls_led s g move kind sites at less =
    let t : State = set_home s g (apply_move move (s.home g)) in
    let u : State = fold (owe_of_home history kind g) t sites in
    let a : Alike t u = alike_fold (owe_of_home history kind g) (λ x to. alike_owe x (home_key kind g to)) sites t in
    falls_by s t u a refl (home_less s g (apply_move move (s.home g)) at less)

moves_led : (s : State) (g : GroupNo) (move : HomeMove) (kind : OwedKind) (sites : List SiteNo) → In g s.config.groups →
    rank (apply_move move (s.home g)) < rank (s.home g) →
    Moves s (fold (owe_of_home history kind g) (set_home s g (apply_move move (s.home g))) sites)
moves_led s g move kind sites at less =
    let t : State = set_home s g (apply_move move (s.home g)) in
    let u : State = fold (owe_of_home history kind g) t sites in
    let a : Alike t u = alike_fold (owe_of_home history kind g) (λ x to. alike_owe x (home_key kind g to)) sites t in
    record { config = a.config; used = a.used; way = inr (falls_led s g move kind sites at less) }

pub moves_start : (s : State) (g : GroupNo) → In g s.config.groups → Moves s (start history s g)
moves_start s g at =
    let h : Home = apply_move Started (s.home g) in
    moves_if s (fold (owe_of_home history Prepare g) (set_home s g h) (awaited_of ((set_home s g h).home g).phase)) s (may_start (s.home g))
    (λ e. moves_led s g Started Prepare (awaited_of ((set_home s g h).home g).phase) at (started_less (s.home g) e))
    (moves_self s)

pub moves_decide : (s : State) (g : GroupNo) → In g s.config.groups → Moves s (decide history s g)
moves_decide s g at =
    let h : Home = apply_move Decided (s.home g) in
    moves_if s (fold (owe_of_home history Install g) (set_home s g h) (waiting_of ((set_home s g h).home g).phase))
    s (may_decide g (s.home g))
    (λ e. moves_led s g Decided Install (waiting_of ((set_home s g h).home g).phase) at (decided_less g (s.home g) e))
    (moves_self s)

-- Wants

still_owed : (owed : List Owed) (key other : OwedKey) (due : ℕ) → is_owed owed other ≡ true → is_owed (with_owed owed key due) other ≡ true
still_owed owed key other due is = elim (cases_Bool (key_eq other key)) [
  | inl same ↦ subst (λ k. is_owed (with_owed owed key due) k ≡ true) (sym (same_key other key same)) (owing_owes owed key due)
  | inr differ ↦ owing_leaves owed key other due (λ same. false≢true (sym differ ∙ ap (λ k. key_eq k key) same ∙ key_itself key)) ∙ is
]

-- with these frames owed in place of those that are
abbrev owing_these : State → List Owed → State
owing_these s owed = record s { owed = owed }

abbrev is_lacking : List Owed → OwedKey → ℕ
is_lacking owed key = one_if (not (is_owed owed key))

-- a key more that is owed is one that is lacking less, and no other is lacking
no_more_lacking : (owed : List Owed) (key : OwedKey) (due : ℕ) (other : OwedKey) →
    is_lacking (with_owed owed key due) other ≤ is_lacking owed other
no_more_lacking owed key due other =
    one_mono (not (is_owed (with_owed owed key due) other)) (not (is_owed owed other))
    (not_mono (is_owed owed other) (is_owed (with_owed owed key due) other) (still_owed owed key other due))

one_less_lacking : (owed : List Owed) (key : OwedKey) (due : ℕ) → is_owed owed key ≡ false →
    is_lacking (with_owed owed key due) key < is_lacking owed key
one_less_lacking owed key due out =
    let after : ◌≡◌ {A = ℕ} (is_lacking (with_owed owed key due) key) 0 = ap (λ b. one_if (not b)) (owing_owes owed key due) in
    let before : ◌≡◌ {A = ℕ} (is_lacking owed key) 1 = ap (λ b. one_if (not b)) out in
    omega arith

-- of the home's Wants no more are to be owed then, and fewer where the key is of one of them
home_le : (s : State) (key : OwedKey) (due : ℕ) (g : GroupNo) → home_unowed (owing_these s (with_owed s.owed key due)) g ≤ home_unowed s g
home_le s key due g =
    total_le (λ w. is_lacking (with_owed s.owed key due) (want_key g w)) (λ w. is_lacking s.owed (want_key g w)) (wants history s g)
    (λ w. no_more_lacking s.owed key due (want_key g w))

home_lt : (s : State) (g : GroupNo) (w : SiteNo × Entry) (due : ℕ) → In w (wants history s g) → is_owed s.owed (want_key g w) ≡ false →
    home_unowed (owing_these s (with_owed s.owed (want_key g w) due)) g < home_unowed s g
home_lt s g w due there out =
    total_lt (λ v. is_lacking (with_owed s.owed (want_key g w) due) (want_key g v)) (λ v. is_lacking s.owed (want_key g v))
    (wants history s g) w
    (λ v. no_more_lacking s.owed (want_key g w) due (want_key g v)) there (one_less_lacking s.owed (want_key g w) due out)

-- and so of the site's
abbrev site_lacks : State → GroupNo → List Owed → Option Pending → ℕ
site_lacks s g owed o =
    elim o [ Some p ↦ total (λ e. is_lacking owed (own_want_key history s g e)) (covered_entries p.cut) | None ↦ 0 ]

site_le : (s : State) (key : OwedKey) (due : ℕ) (g : GroupNo) → site_unowed (owing_these s (with_owed s.owed key due)) g ≤ site_unowed s g
site_le s key due g = of_pending (s.group g).pending
  where
    of_pending : (o : Option Pending) → site_lacks s g (with_owed s.owed key due) o ≤ site_lacks s g s.owed o
    of_pending None = omega arith
    of_pending (Some p) =
        total_le (λ e. is_lacking (with_owed s.owed key due) (own_want_key history s g e))
        (λ e. is_lacking s.owed (own_want_key history s g e)) (covered_entries p.cut)
        (λ e. no_more_lacking s.owed key due (own_want_key history s g e))

site_lt : (s : State) (g : GroupNo) (p : Pending) (e : Entry) (due : ℕ) → (s.group g).pending ≡ Some p → In e (covered_entries p.cut) →
    is_owed s.owed (own_want_key history s g e) ≡ false →
    site_unowed (owing_these s (with_owed s.owed (own_want_key history s g e) due)) g < site_unowed s g
site_lt s g p e due waits there out =
    let key : OwedKey = own_want_key history s g e in
    subst (λ o. site_lacks s g (with_owed s.owed key due) o < site_lacks s g s.owed o) (sym waits)
    (total_lt (λ x. is_lacking (with_owed s.owed key due) (own_want_key history s g x))
    (λ x. is_lacking s.owed (own_want_key history s g x)) (covered_entries p.cut) e
    (λ x. no_more_lacking s.owed key due (own_want_key history s g x)) there (one_less_lacking s.owed key due out))

-- where fewer are to be owed of one group, fewer are of all
unowed_less : (s : State) (g : GroupNo) (key : OwedKey) (due : ℕ) → In g s.config.groups →
    unowed_in (owing_these s (with_owed s.owed key due)) g < unowed_in s g →
    unowed_count (owing_these s (with_owed s.owed key due)) < unowed_count s
unowed_less s g key due at here =
    total_lt (unowed_in (owing_these s (with_owed s.owed key due))) (unowed_in s) s.config.groups g
    (λ h. omega (arith, home_le s key due h, site_le s key due h)) at here

-- a frame that is owed lowers what is to be owed, where its key is one of those
moves_owe : (s : State) (g : GroupNo) (key : OwedKey) → In g s.config.groups →
    (is_owed s.owed key ≡ false → unowed_in (owing_these s (with_owed s.owed key (next_due s))) g < unowed_in s g) →
    Moves s (owe history s key)
moves_owe s g key at counted =
    elim (is_owed s.owed key) as (λ b. is_owed s.owed key ≡ b → Moves s (if b then s else noting_owed (send_for history s key) key)) [
      | true ↦ λ _. moves_self s
      | false ↦ λ out.
          let t : State = noting_owed (send_for history s key) key in
          let a : Alike s t =
          alike_then s (send_for history s key) t (alike_send_for s key) (alike_noting_owed (send_for history s key) key) in
          let now : unowed_count t ≡ unowed_count (owing_these s t.owed) =
          λ i. unowed_count (record s { home = a.home i; config = a.config i; group = a.group i; owed = t.owed }) in
          let listed : unowed_count (owing_these s t.owed) ≡ unowed_count (owing_these s (with_owed s.owed key (next_due s))) =
          ap (λ o. unowed_count (owing_these s o)) (same_owed s key) in
          record {
            config = a.config;
            used = a.used;
            way = inr (inr (
              pendings_alike s t a,
              inr (
                to_do_alike s t a,
                subst (λ n. n < unowed_count s) (sym (now ∙ listed)) (unowed_less s g key (next_due s) at (counted out)),
              ),
            ));
          }
    ] refl
  where
    same_owed : (s : State) (key : OwedKey) → (noting_owed (send_for history s key) key).owed ≡ with_owed s.owed key (next_due s)
    same_owed s key =
        elim (frame_for history s key) as (λ o.
        (noting_owed (option_map_or (emit s key.site) o s) key).owed ≡ with_owed s.owed key (next_due s)) [ Some f ↦ refl | None ↦ refl ]

less_by_home : (a b c d : ℕ) → a < b → c ≤ d → a + c < b + d
less_by_home a b c d less le = omega arith

less_by_site : (a b c d : ℕ) → a ≤ b → c < d → a + c < b + d
less_by_site a b c d le less = omega arith

pub moves_want : (s : State) (g : GroupNo) (w : SiteNo × Entry) → In g s.config.groups → In w (wants history s g) →
    Moves s (want history g s w)
moves_want s g w at there =
    let key : OwedKey = want_key g w in
    let now : State = owing_these s (with_owed s.owed key (next_due s)) in
    moves_owe s g key at
    (λ out. less_by_home (home_unowed now g) (home_unowed s g) (site_unowed now g) (site_unowed s g) (home_lt s g w (next_due s) there out)
    (site_le s key (next_due s) g))

pub moves_want_own : (s : State) (g : GroupNo) (p : Pending) (e : Entry) → In g s.config.groups → (s.group g).pending ≡ Some p →
    In e (covered_entries p.cut) → Moves s (want_own history g s e)
moves_want_own s g p e at waits there =
    let key : OwedKey = own_want_key history s g e in
    let now : State = owing_these s (with_owed s.owed key (next_due s)) in
    moves_owe s g key at
    (λ out. less_by_site (home_unowed now g) (home_unowed s g) (site_unowed now g) (site_unowed s g) (home_le s key (next_due s) g)
    (site_lt s g p e (next_due s) waits there out))

-- Wants leave the homes and the configuration as they are
pub moves_wanted : (s : State) (g : GroupNo) (ws : List (SiteNo × Entry)) → In g s.config.groups →
    ((w : SiteNo × Entry) → In w ws → In w (wants history s g)) → Moves s (fold (want history g) s ws)
moves_wanted s g [] at among = moves_self s
moves_wanted s g (w ∷ ws) at among =
    let t : State = want history g s w in
    let a : Alike s t = alike_owe s (want_key g w) in
    moves_then s t (fold (want history g) t ws) (moves_want s g w at (among w (inl refl)))
    (moves_wanted t g ws (subst (λ c. In g c.groups) (sym a.config) at)
    (λ v there. subst (λ h. In v (wants_in g (h g) (h g).phase)) (sym a.home) (among v (inr there))))

pub moves_want_bodies : (s : State) (g : GroupNo) → In g s.config.groups → Moves s (want_bodies history s g)
moves_want_bodies s g at = moves_wanted s g (wants history s g) at (λ w there. there)

pub moves_lead_group : (s : State) (g : GroupNo) → In g s.config.groups → Moves s (lead_group history s g)
moves_lead_group s g at =
    let t : State = start history s g in
    let u : State = want_bodies history t g in
    let a : Moves s t = moves_start s g at in
    let b : Moves t u = moves_want_bodies t g (subst (λ c. In g c.groups) (sym a.config) at) in
    moves_then s t (decide history u g) a
    (moves_then t u (decide history u g) b (moves_decide u g (subst (λ c. In g c.groups) (sym (b.config ∙ a.config)) at)))

pub moves_lead : (s : State) → Moves s (lead history s)
moves_lead s =
    moves_if s (fold (lead_group history) s s.config.groups) s (is_home history s)
    (λ _. moves_fold s (lead_group history) s.config.groups (λ g at t u c. moves_lead_group t g (subst (λ x. In g x.groups) (sym c) at))
    s refl refl)
    (moves_self s)

-- Installs that wait

-- a group in which none waits any more
ended_less : (s : State) (g : GroupNo) (v : MemberSide) → In g s.config.groups → is_pending (s.group g) ≡ true → is_pending v ≡ false →
    pendings (set_group s g v) < pendings s
ended_less s g v at was now =
    total_lt (λ h. one_if (is_pending (set_at group_eq s.group g v h))) (λ h. one_if (is_pending (s.group h))) s.config.groups g
    (at_group_le (λ x. one_if (is_pending x)) s.group g v (weaker _ _ fewer)) at
    (at_group_lt (λ x. one_if (is_pending x)) s.group g v fewer)
  where
    fewer : one_if (is_pending v) < one_if (is_pending (s.group g))
    fewer =
        let none : ◌≡◌ {A = ℕ} (one_if (is_pending v)) 0 = ap one_if now in
        let one : ◌≡◌ {A = ℕ} (one_if (is_pending (s.group g))) 1 = ap one_if was in
        omega arith

-- where one is completed, fewer wait
pub completed_less : (s : State) (g : GroupNo) (p : Pending) → In g s.config.groups → is_pending (s.group g) ≡ true →
    pendings (complete history s g p) < pendings s
completed_less s g p at waits =
    let n : ℕ = (s.group g).number + 1 in
    let t : State = putting_out s g false p.members in
    let now : State = with_next_view s g false n p.members in
    let a : Alike s t = alike_putting_out s g false p.members in
    let b : Alike now (complete history s g p) = alike_installing s g false s.config.home n p.members p.request p.cut in
    let less : pendings now < pendings t =
    ended_less t g (with_view t.here n p.members (t.group g)) (subst (λ c. In g c.groups) (sym a.config) at)
    (subst (λ x. is_pending (x g) ≡ true) (sym a.group) waits) refl in
    subst (λ m. m < pendings s) (sym (pendings_alike now (complete history s g p) b))
    (subst (λ m. pendings now < m) (pendings_alike s t a) less)

pub moves_complete : (s : State) (g : GroupNo) (p : Pending) → In g s.config.groups → is_pending (s.group g) ≡ true →
    Moves s (complete history s g p)
moves_complete s g p at waits =
    let n : ℕ = (s.group g).number + 1 in
    let a : Alike s (putting_out s g false p.members) = alike_putting_out s g false p.members in
    let b : Alike (with_next_view s g false n p.members) (complete history s g p) =
    alike_installing s g false s.config.home n p.members p.request p.cut in
    record { config = b.config ∙ a.config; used = b.used ∙ a.used; way = inr (inl (completed_less s g p at waits)) }

-- and what is free then is let go
pub let_go_less : (s : State) (g : GroupNo) (p : Pending) → In g s.config.groups → is_pending (s.group g) ≡ true →
    pendings (let_go (complete history s g p)) < pendings s
let_go_less s g p at waits =
    let c : State = complete history s g p in
    subst (λ n. n < pendings s) (sym (pendings_alike c (let_go c) (alike_let_go c))) (completed_less s g p at waits)

pub moves_completed : (s : State) (g : GroupNo) (p : Pending) → In g s.config.groups → is_pending (s.group g) ≡ true →
    Moves s (let_go (complete history s g p))
moves_completed s g p at waits =
    let c : State = complete history s g p in
    let a : Alike c (let_go c) = alike_let_go c in
    let m : Moves s c = moves_complete s g p at waits in
    record {
      config = a.config ∙ m.config;
      used = a.used ∙ m.used;
      way = inr (inl (let_go_less s g p at waits));
    }

-- Wants leave the groups and the configuration as they are
pub moves_wanted_own : (s : State) (g : GroupNo) (p : Pending) (es : List Entry) → In g s.config.groups → (s.group g).pending ≡ Some p →
    ((e : Entry) → In e es → In e (covered_entries p.cut)) → Moves s (fold (want_own history g) s es)
moves_wanted_own s g p [] at waits among = moves_self s
moves_wanted_own s g p (e ∷ es) at waits among =
    let t : State = want_own history g s e in
    let a : Alike s t = alike_owe s (own_want_key history s g e) in
    moves_then s t (fold (want_own history g) t es) (moves_want_own s g p e at waits (among e (inl refl)))
    (moves_wanted_own t g p es (subst (λ c. In g c.groups) (sym a.config) at)
    (subst (λ x. (x g).pending ≡ Some p) (sym a.group) waits)
    (λ v there. among v (inr there)))

pub missing_covered : (s : State) (g : GroupNo) (cut : CountList) (e : Entry) → In e (missing_in s g cut) → In e (covered_entries cut)
missing_covered s g cut e there =
    (in_kept (is_missing s g) (covered_entries cut) e (in_take MAX_PLACED (filter (is_missing s g) (covered_entries cut)) e there)).1

moves_waiting : (s : State) (g : GroupNo) (p : Pending) → In g s.config.groups → (s.group g).pending ≡ Some p →
    Moves s (complete_or_want history resting s g p)
moves_waiting s g p at waits =
    moves_if s (let_go (complete history s g p)) (fold (want_own history g) s (missing_in s g p.cut)) (has_delivered_cut s g p.cut)
    (λ _. moves_completed s g p at (ap (λ (o : Option Pending). elim o as (λ _. Bool) [ Some p ↦ true | None ↦ false ]) waits))
    (moves_wanted_own s g p (missing_in s g p.cut) at waits (missing_covered s g p.cut))

pub moves_go_on : (s : State) (g : GroupNo) → In g s.config.groups → Moves s (go_on history resting s g)
moves_go_on s g at =
    elim (s.group g).pending
    as (λ o. (s.group g).pending ≡ o → Moves s (elim o [ Some p ↦ complete_or_want history resting s g p | None ↦ s ])) [
      | None ↦ λ _. moves_self s
      | Some p ↦ λ waits. moves_waiting s g p at waits
    ] refl

pub moves_go_on_all : (s : State) → Moves s (go_on_all history resting s)
moves_go_on_all s =
    moves_fold s (go_on history resting) s.config.groups (λ g at t u c. moves_go_on t g (subst (λ x. In g x.groups) (sym c) at)) s refl refl

pub moves_pass : PassMoves
moves_pass s =
    let a : State = settle s in
    let b : State = set_orders a in
    let c : State = go_on_all history resting b in
    moves_then s a (pass s) (moves_settle s)
    (moves_then a b (pass s) (moves_set_orders a)
    (moves_then b c (pass s) (moves_go_on_all b) (moves_lead c)))

-- and so never do more wait
pub never_more : (s t : State) → Moves s t → pendings t ≤ pendings s
never_more s t m = elim m.way [
  | inl same ↦ let is = ap pendings same in omega (arith, is)
  | inr (inl fewer) ↦ omega (arith, fewer)
  | inr (inr as_many) ↦ let is = as_many.0 in omega (arith, is)
]

-- The end

abbrev Rests : State → Type 0
Rests s = (t : State) × RestsAt s t

one_more : (s : State) → Rests (pass s) → Rests s
one_more s r = (r.0, (suc r.1.0, r.1.1, r.1.2))

-- as much is to be done while Wants come to be owed
rests_within : (p n : ℕ) → ((s : State) → pendings s < p → Rests s) → ((s : State) → pendings s ≤ p → to_do s < n → Rests s) →
    (m : ℕ) (s : State) → pendings s ≤ p → to_do s ≤ n → unowed_count s ≤ m → Rests s
rests_within p n fewer less zero s w a b = elim (moves_pass s).way [
  | inl e ↦ (s, (zero, refl, e))
  | inr (inl f) ↦ one_more s (fewer (pass s) (omega arith))
  | inr (inr f) ↦ let as_many = f.0 in elim f.1 [
    | inl g ↦ one_more s (less (pass s) (omega (arith, as_many)) (omega (arith, g)))
    | inr g ↦ let none = g.1 in absurd (omega (arith, none))
  ]
]
rests_within p n fewer less (suc m) s w a b = elim (moves_pass s).way [
  | inl e ↦ (s, (zero, refl, e))
  | inr (inl f) ↦ one_more s (fewer (pass s) (omega arith))
  | inr (inr f) ↦ let as_many = f.0 in elim f.1 [
    | inl g ↦ one_more s (less (pass s) (omega (arith, as_many)) (omega (arith, g)))
    | inr g ↦
        let same = g.0 in
        let lacking = g.1 in
        one_more s (rests_within p n fewer less m (pass s) (omega (arith, as_many)) (omega (arith, same)) (omega (arith, lacking)))
  ]
]

-- as many Installs wait while less comes to be done
rests_doing : (p : ℕ) → ((s : State) → pendings s < p → Rests s) → (n : ℕ) (s : State) → pendings s ≤ p → to_do s < n → Rests s
rests_doing p fewer zero s w lt = absurd (omega arith)
rests_doing p fewer (suc n) s w lt = rests_within p n fewer (rests_doing p fewer n) (unowed_count s) s w (omega arith) (omega arith)

rests_below : (p : ℕ) (s : State) → pendings s < p → Rests s
rests_below zero s lt = absurd (omega arith)
rests_below (suc p) s lt = rests_doing p (rests_below p) (to_do s + 1) s (omega arith) (omega arith)

pub comes_to_rest : EachComesToRest
comes_to_rest s = rests_below (pendings s + 1) s (omega arith)

pub rests_at_one : RestIsOne
rests_at_one s t u a b =
    sym (iterate_still b.0 pass t a.2)
    ∙ ap (iterate b.0 pass) (sym a.1)
    ∙ iterate_twice b.0 a.0 pass s
    ∙ ap (iterate a.0 pass) b.1
    ∙ iterate_still a.0 pass u b.2
