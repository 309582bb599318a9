-- What holds of the keys of a list in order, of times that are joined, raised and begun, and of the processes that a
-- time counts.
use Rattle.std.proofs.Common.{◌≡◌, ℕ, ◌+◌, ◌<◌, ◌≤◌, Bool, true, List, [], ◌∷◌, length, map, Ordering}
use Rattle.std.proofs.Common.{Less, Equal, Greater, refl, sym, ap, subst, ◌∙◌, inl, inr, arith}
use Rattle.std.specs.Prelude.{T, ◌&&◌, ◌||◌, ◌⊎◌, nat_lt, nat_le, max}
use Rattle.std.specs.List.{list_all, range_with_len}
use Rattle.std.specs.Ordering.{nat_cmp, is_lt, MatchOrdering}
use Rattle.std.specs.Cmp.{IsTotalOrder}
use Rattle.std.specs.FinMap.Entries.{put, by_order, below_all, is_sorted, is_sorted-put}
use Rattle.std.proofs.lemmas.Bool.{false≢true, and_parts, and_from, or_cases}
use Rattle.std.proofs.lemmas.Cmp.{ranked, tied_itself}
use Rattle.std.proofs.lemmas.Map.Lookups.{CmpEqualImpliesEq}
use Rattle.cast_types.specs.declared.names.GroupNo.{GroupNo}
use Rattle.cast_types.specs.declared.names.Proc.{Proc}
use Rattle.cast_types.specs.declared.names.Uid.{Uid}
use Rattle.cast_types.specs.declared.clock.Clock.{Clock}
use Rattle.cast_types.specs.Names.{Entry, group_eq, group_cmp, proc_eq, proc_cmp, uid_eq, uid_in}
use Rattle.cast_types.specs.Sets.{is_among, at_order}
use Rattle.cast_types.specs.Counts.{CountList, count_of}
use Rattle.cast_types.specs.Stamps.{ClockList, is_stamp}
use Rattle.cast_types.proofs.Orders.{group_total, group_exact, proc_total, proc_exact, same_group, same_proc, same_uid}
use Rattle.cast_clock.specs.Times.{first_clock, clock_of, view_of, count_in, join_counts}
use Rattle.cast_clock.specs.Times.{join_clocks, join, has_room, is_time, with_bump, entering}
use Rattle.cast_clock.proofs.Entries.{as_T, both_parts, less_is}
use Rattle.cast_clock.proofs.Raised.{join_is_time, bump_is_time, enter_is_time}
use Rattle.cast_clock.proofs.Valid.{le_as, lt_as, lt_from, valid_counts, sorted_time, is_counts-clock_of, has_room-bumped}
use Rattle.cast_message.specs.declared.message.Message.{Message}
use Rattle.cast_types.specs.Rising.{is_rising}
use Rattle.cast_ready.specs.Ready.{Process, first_of, covered_entries, past_in, has_delivered}
use Rattle.cast_delay.proofs.ListLemmas.{list_all-filter, list_all-map, list_all-flat_map, range_holds}
use Rattle.cast_rules.specs.Raising.{IsTimeOf}

-- Entries

-- what holds of each entry holds of each after one is put
pub all_put : {K V : Type 0} {R : K → K → Ordering} → CmpEqualImpliesEq R → (P : K → V → Bool) (k : K) (v : V) (es : List (K × V)) →
    list_all (λ e. P e.0 e.1) es ≡ true → P k v ≡ true → list_all (λ e. P e.0 e.1) (put R k v es) ≡ true
all_put exact P k v [] all new = and_from (P k v) true new refl
all_put {R = R} exact P k v (e ∷ es) all new =
    let parts = and_parts (P e.0 e.1) (list_all (λ x. P x.0 x.1) es) all in
    elim (R k e.0)
    as (λ o. R k e.0 ≡ o → list_all (λ x. P x.0 x.1) (by_order o ((k, v) ∷ e ∷ es) ((e.0, v) ∷ es) (e ∷ put R k v es)) ≡ true) [
      | Less ↦ λ _. and_from (P k v) (list_all (λ x. P x.0 x.1) (e ∷ es)) new all
      | Equal ↦ λ tie. and_from (P e.0 v) (list_all (λ x. P x.0 x.1) es) (subst (λ x. P x v ≡ true) (exact k e.0 tie) new) parts.1
      | Greater ↦ λ _. and_from (P e.0 e.1) (list_all (λ x. P x.0 x.1) (put R k v es)) parts.0 (all_put exact P k v es parts.1 new)
    ] refl

pub put_some : {K V : Type 0} (R : K → K → Ordering) (k : K) (v : V) (es : List (K × V)) → 0 < length (put R k v es)
put_some R k v [] = omega arith
put_some R k v (e ∷ es) = elim (R k e.0) as (λ o. 0 < length (by_order o ((k, v) ∷ e ∷ es) ((e.0, v) ∷ es) (e ∷ put R k v es))) [
  | Less ↦ omega arith
  | Equal ↦ omega arith
  | Greater ↦ omega arith
]

-- what passes two tests passes a third
pub all_both : {A : Type 0} (p q r : A → Bool) → ((x : A) → p x ≡ true → q x ≡ true → r x ≡ true) → (xs : List A) → list_all p xs ≡ true →
    list_all q xs ≡ true → list_all r xs ≡ true
all_both p q r f [] ps qs = refl
all_both p q r f (x ∷ xs) ps qs =
    let a = and_parts (p x) (list_all p xs) ps in
    let b = and_parts (q x) (list_all q xs) qs in
    and_from (r x) (list_all r xs) (f x a.0 b.0) (all_both p q r f xs a.1 b.1)

-- keys in order that are all among the items of a list are no more than these
module _ {K : Type 0} (R : K → K → Ordering) (total : IsTotalOrder R) (eq : K → K → Bool) (same : (a b : K) → eq a b ≡ true → a ≡ b) where
  -- what is above the first item is among the others
  above_first : (x y : K) (xs : List K) → R x y ≡ Less → is_among eq y (x ∷ xs) ≡ true → is_among eq y xs ≡ true
  above_first x y xs above among = elim (or_cases (eq y x) (is_among eq y xs) among) [
    | inl first ↦ absurd (apart (sym (tied_itself total x) ∙ ap (R x) (sym (same y x first)) ∙ above))
    | inr later ↦ later
  ]
    where
      apart : Equal ≡ Less → ⊥
      apart e = cc

  -- what is among items that are above another is above it
  among_above : (x y : K) (xs : List K) → list_all (λ z. is_lt (R x z)) xs ≡ true → is_among eq y xs ≡ true → R x y ≡ Less
  among_above x y [] all among = absurd (false≢true among)
  among_above x y (z ∷ zs) all among =
      let parts = and_parts (is_lt (R x z)) (list_all (λ w. is_lt (R x w)) zs) all in
      elim (or_cases (eq y z) (is_among eq y zs) among) [
        | inl first ↦ subst (λ w. R x w ≡ Less) (sym (same y z first)) (less_is _ (as_T _ parts.0))
        | inr later ↦ among_above x y zs parts.1 later
      ]

  keys_above : {V : Type 0} (x k : K) (xs : List K) (es : List (K × V)) → ((y : K) → R k y ≡ Less → R x y ≡ Less) → T (below_all R k es) →
      list_all (λ e. is_among eq e.0 (x ∷ xs)) es ≡ true → list_all (λ e. is_among eq e.0 xs) es ≡ true
  keys_above x k xs [] above below all = refl
  keys_above x k xs (e ∷ es) above below all =
      let a = both_parts (is_lt (R k e.0)) (below_all R k es) below in
      let b = and_parts (is_among eq e.0 (x ∷ xs)) (list_all (λ y. is_among eq y.0 (x ∷ xs)) es) all in
      and_from (is_among eq e.0 xs) (list_all (λ y. is_among eq y.0 xs) es) (above_first x e.0 xs (above e.0 (less_is _ a.0)) b.0)
      (keys_above x k xs es above a.1 b.1)

  pub no_more_keys : {V : Type 0} (xs : List K) (es : List (K × V)) → T (is_sorted R es) → is_rising R xs ≡ true →
      list_all (λ e. is_among eq e.0 xs) es ≡ true → length es ≤ length xs
  no_more_keys xs [] sorted rising all = omega arith
  no_more_keys [] (e ∷ es) sorted rising all = absurd (false≢true all)
  no_more_keys (x ∷ xs) (e ∷ es) sorted rising all =
      let s = both_parts (below_all R e.0 es) (is_sorted R es) sorted in
      let r = and_parts (list_all (λ y. is_lt (R x y)) xs) (is_rising R xs) rising in
      let a = and_parts (is_among eq e.0 (x ∷ xs)) (list_all (λ y. is_among eq y.0 (x ∷ xs)) es) all in
      elim (or_cases (eq e.0 x) (is_among eq e.0 xs) a.0) [
        | inl first ↦
            let rest =
            no_more_keys xs es s.1 r.1 (keys_above x e.0 xs es (λ y below. subst (λ z. R z y ≡ Less) (same e.0 x first) below) s.0 a.1) in
            omega (arith, rest)
        | inr later ↦
            let above : R x e.0 ≡ Less = among_above x e.0 xs r.0 later in
            let rest = no_more_keys xs (e ∷ es) sorted r.1
            (and_from (is_among eq e.0 xs) (list_all (λ y. is_among eq y.0 xs) es) later
            (keys_above x e.0 xs es (λ y below. total.trans x e.0 y above below) s.0 a.1)) in
            omega (arith, rest)
      ]

-- Times

-- a clock of a group that a time may have
abbrev pub is_clock_of : List GroupNo → GroupNo → Clock → Bool
is_clock_of groups g c = is_among group_eq g groups && nat_lt 0 c.view

pub clock_from : (groups : List GroupNo) (g : GroupNo) (c : Clock) → is_among group_eq g groups ≡ true → 0 < c.view →
    is_clock_of groups g c ≡ true
clock_from groups g c listed seen = and_from (is_among group_eq g groups) (nat_lt 0 c.view) listed (lt_as 0 c.view seen)

joined_seen : (a b : Clock) → 0 < b.view → 0 < (join_clocks a b).view
joined_seen a b seen =
    elim (nat_cmp a.view b.view) as (λ o. MatchOrdering o (a.view < b.view) (a.view ≡ b.view) (b.view < a.view) →
    0 < (at_order o b (record { view = a.view; counts = join_counts a.counts b.counts }) a).view) [
      | Less ↦ λ _. seen
      | Equal ↦ λ is. omega (arith, is, seen)
      | Greater ↦ λ is. omega (arith, is, seen)
    ] (ranked a.view b.view (nat_cmp a.view b.view) refl)

joined_named : (groups : List GroupNo) (s t : ClockList) → list_all (λ e. is_clock_of groups e.0 e.1) s ≡ true →
    list_all (λ e. is_clock_of groups e.0 e.1) t ≡ true → list_all (λ e. is_clock_of groups e.0 e.1) (join s t) ≡ true
joined_named groups s [] ss ts = ss
joined_named groups s (e ∷ t) ss ts =
    let parts = and_parts (is_clock_of groups e.0 e.1) (list_all (λ x. is_clock_of groups x.0 x.1) t) ts in
    let here = and_parts (is_among group_eq e.0 groups) (nat_lt 0 e.1.view) parts.0 in
    let both : Clock = join_clocks (clock_of s e.0) e.1 in
    joined_named groups (put group_cmp e.0 both s) t
    (all_put group_exact (is_clock_of groups)
    e.0 both s ss (clock_from groups e.0 both here.0 (joined_seen (clock_of s e.0) e.1 (lt_from 0 e.1.view here.1)))) parts.1

pub time_joined : (groups : List GroupNo) (s t : ClockList) → IsTimeOf groups s → IsTimeOf groups t → has_room (join s t) ≡ true →
    IsTimeOf groups (join s t)
time_joined groups s t a b room = record { valid = join_is_time s t a.valid b.valid room; named = joined_named groups s t a.named b.named }

pub time_entered : (groups : List GroupNo) (t : ClockList) (g : GroupNo) (n : ℕ) → IsTimeOf groups t → is_among group_eq g groups ≡ true →
    0 < n → IsTimeOf groups (entering t g n)
time_entered groups t g n a listed seen = record {
  valid = enter_is_time t g n a.valid;
  named = all_put group_exact (is_clock_of groups) g (first_clock n) t a.named (clock_from groups g (first_clock n) listed seen);
}

pub time_raised : (groups : List GroupNo) (t : ClockList) (g : GroupNo) (p : Proc) → IsTimeOf groups t → is_among group_eq g groups ≡ true →
    0 < view_of t g → has_room (with_bump t g p) ≡ true → IsTimeOf groups (with_bump t g p)
time_raised groups t g p a listed seen room = record {
  valid = bump_is_time t g p a.valid room;
  named =
      all_put group_exact (is_clock_of groups)
      g (record { view = view_of t g; counts = put proc_cmp p (count_in t g p + 1) (clock_of t g).counts }) t a.named
      (clock_from groups g (record { view = view_of t g; counts = put proc_cmp p (count_in t g p + 1) (clock_of t g).counts }) listed seen);
}

-- a time of few groups that says something has a spelling
pub time_spelled : (groups : List GroupNo) (t : ClockList) → is_rising group_cmp groups ≡ true → length groups ≤ 32 → IsTimeOf groups t →
    0 < length t → is_stamp t ≡ true
time_spelled groups t rising few a some =
    let sorted = sorted_time t a.valid in
    let known = all_both (λ e. is_clock_of groups e.0 e.1) (λ e. is_clock_of groups e.0 e.1) (λ e. is_among group_eq e.0 groups)
    (λ e is _. (and_parts (is_among group_eq e.0 groups) (nat_lt 0 e.1.view) is).0) t a.named a.named in
    let seen = all_both (λ e. is_clock_of groups e.0 e.1) (λ e. is_clock_of groups e.0 e.1) (λ e. nat_lt 0 e.1.view)
    (λ e is _. (and_parts (is_among group_eq e.0 groups) (nat_lt 0 e.1.view) is).1) t a.named a.named in
    let most = no_more_keys group_cmp group_total group_eq same_group groups t (as_T _ sorted) rising known in
    and_from (is_sorted group_cmp t) _ sorted
    (and_from (nat_lt 0 (length t)) _ (lt_as 0 (length t) some)
    (and_from (nat_le (length t) 32) _ (le_as (length t) 32 (omega (arith, most, few))) seen))

-- Counts

-- a test of processes
abbrev pub all_counted : (Proc → Bool) → CountList → Bool
all_counted f c = list_all (λ e. f e.0) c

pub counted_put : (f : Proc → Bool) (p : Proc) (n : ℕ) (c : CountList) → all_counted f c ≡ true → f p ≡ true →
    all_counted f (put proc_cmp p n c) ≡ true
counted_put f p n c all new = all_put proc_exact (λ q _. f q) p n c all new

counted_joined_counts : (f : Proc → Bool) (c d : CountList) → all_counted f c ≡ true → all_counted f d ≡ true →
    all_counted f (join_counts c d) ≡ true
counted_joined_counts f c [] cs ds = cs
counted_joined_counts f c (e ∷ d) cs ds =
    let parts = and_parts (f e.0) (all_counted f d) ds in
    counted_joined_counts f (put proc_cmp e.0 (max (count_of c e.0) e.1) c)
    d (counted_put f e.0 (max (count_of c e.0) e.1) c cs parts.0) parts.1

-- a clock whose view is the later one, or as late, keeps what it counts, and counts what another of its view counts
pub counted_joined : (f : Proc → Bool) (a b : Clock) → b.view ≤ a.view → all_counted f a.counts ≡ true →
    (b.view ≡ a.view → all_counted f b.counts ≡ true) → all_counted f (join_clocks a b).counts ≡ true
counted_joined f a b older here there =
    elim (nat_cmp a.view b.view) as (λ o. MatchOrdering o (a.view < b.view) (a.view ≡ b.view) (b.view < a.view) →
    all_counted f (at_order o b (record { view = a.view; counts = join_counts a.counts b.counts }) a).counts ≡ true) [
      | Less ↦ λ later. absurd (omega (arith, later, older))
      | Equal ↦ λ is. counted_joined_counts f a.counts b.counts here (there (sym is))
      | Greater ↦ λ _. here
    ] (ranked a.view b.view (nat_cmp a.view b.view) refl)

-- where only members of a view are counted, one count more has room
pub raised_room : (members : List Proc) (t : ClockList) (g : GroupNo) (p : Proc) → is_rising proc_cmp members ≡ true → length members ≤ 64 →
    is_time t ≡ true → is_among proc_eq p members ≡ true → all_counted (λ q. is_among proc_eq q members) (clock_of t g).counts ≡ true →
    has_room (with_bump t g p) ≡ true
raised_room members t g p rising few valid itself counted =
    let c : CountList = (clock_of t g).counts in
    let n : ℕ = count_in t g p + 1 in
    let ordered = (valid_counts c (is_counts-clock_of t g valid)).in_order in
    let most =
    no_more_keys proc_cmp proc_total proc_eq same_proc members (put proc_cmp p n c)
    (is_sorted-put proc_cmp proc_total p n c (as_T _ ordered))
    rising (counted_put (λ q. is_among proc_eq q members) p n c counted itself) in
    has_room-bumped t g p valid ∙ le_as (length (put proc_cmp p n c)) 64 (omega (arith, most, few))

-- each process that a message's time counts sent a message that is delivered, or this one
pub each_sender : (p : Process) (m : Message) (g : GroupNo) (f : Proc → Bool) → is_time m.times ≡ true →
    list_all (has_delivered p) (past_in m g) ≡ true →
    ((u : Uid) → u.group ≡ g → u.view ≡ view_of m.times g → (u ≡ m.id) ⊎ (has_delivered p u ≡ true) → f u.proc ≡ true) →
    all_counted f (clock_of m.times g).counts ≡ true
each_sender p m g f valid past sends =
    let v : ℕ = view_of m.times g in
    let c : CountList = (clock_of m.times g).counts in
    let t : Entry → Bool = λ e. uid_eq m.id (uid_in g v e) || has_delivered p (uid_in g v e) in
    let each : list_all (λ e. list_all t (first_of e)) c ≡ true =
    sym (list_all-flat_map t first_of c)
    ∙ sym (list_all-map (λ u. uid_eq m.id u || has_delivered p u) (uid_in g v) (covered_entries c))
    ∙ sym (list_all-filter (has_delivered p) (uid_eq m.id) (map (uid_in g v) (covered_entries c)))
    ∙ past in
    all_both (λ e. list_all t (first_of e)) (λ e. nat_lt 0 e.1) (λ e. f e.0)
    (λ e all positive.
    let some = lt_from 0 e.1 positive in
    let first : t (e.0, 1) ≡ true =
    range_holds (λ k. t (e.0, k)) e.1 1 (sym (list_all-map t (λ k. (e.0, k)) (range_with_len 1 e.1)) ∙ all) 1 (omega arith)
    (omega (arith, some)) in
    elim (or_cases (uid_eq m.id (uid_in g v (e.0, 1))) (has_delivered p (uid_in g v (e.0, 1))) first) [
      | inl own ↦ sends (uid_in g v (e.0, 1)) refl refl (inl (sym (same_uid m.id (uid_in g v (e.0, 1)) own)))
      | inr done ↦ sends (uid_in g v (e.0, 1)) refl refl (inr done)
    ])
    c each (valid_counts c (is_counts-clock_of m.times g valid)).positive
