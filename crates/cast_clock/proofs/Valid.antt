-- What keeps counts and clocks in order, within their number and at least 1.
use Rattle.std.proofs.Common.{◌≡◌, ℕ, ◌+◌, ◌≤◌, ◌<◌, Bool, true, max, [], ◌∷◌, length}
use Rattle.std.proofs.Common.{Less, Equal, Greater, refl, sym, ap, subst, ◌∙◌, arith}
use Rattle.std.specs.Prelude.{T, IsTrue, nat_le, nat_lt, cond, is_some, Option, Some, None}
use Rattle.std.specs.List.{list_all}
use Rattle.std.specs.Ordering.{nat_cmp}
use Rattle.std.specs.FinMap.Entries.{find, put, is_sorted, is_sorted-put, length-put}
use Rattle.std.proofs.lemmas.Bool.Decides.{nat_tests}
use Rattle.cast_types.specs.declared.names.Proc.{Proc}
use Rattle.cast_types.specs.declared.names.GroupNo.{GroupNo}
use Rattle.cast_types.specs.declared.clock.Clock.{Clock}
use Rattle.cast_types.specs.Names.{proc_cmp, group_cmp}
use Rattle.cast_types.specs.Sets.{at_order}
use Rattle.cast_types.specs.Counts.{CountList, count_of, is_counts}
use Rattle.cast_types.specs.Stamps.{ClockList, is_stamp}
use Rattle.cast_clock.specs.Times.{first_clock, clock_of, count_in, join_counts, join_clocks, clock_has_room, has_room, is_time, with_bump}
use Rattle.cast_clock.proofs.Entries.{as_T, from_T, and_both, and_true, list_all-put, found_or}
use Rattle.cast_types.proofs.Orders.{proc_total, group_total, group_exact}

pub le_from : (a b : ℕ) → nat_le a b ≡ true → a ≤ b
le_from a b h = grind (arith, nat_tests)

pub lt_from : (a b : ℕ) → nat_lt a b ≡ true → a < b
lt_from a b h = grind (arith, nat_tests)

pub le_as : (a b : ℕ) → a ≤ b → nat_le a b ≡ true
le_as a b h = grind (arith, nat_tests)

pub lt_as : (a b : ℕ) → a < b → nat_lt a b ≡ true
lt_as a b h = grind (arith, nat_tests)

-- ---- counts
pub record IsValid (c : CountList) : Type 0 where
  pub in_order : IsTrue (is_sorted proc_cmp c)
  pub few : length c ≤ 64
  pub positive : list_all (λ e. nat_lt 0 e.1) c ≡ true

pub valid_counts : (c : CountList) → IsTrue (is_counts c) → IsValid c
valid_counts c h =
    let parts = and_both _ _ h in
    let rest = and_both _ _ parts.1 in
    record { in_order = parts.0; few = le_from _ _ rest.0; positive = rest.1 }

pub counts_valid : (c : CountList) → IsValid c → IsTrue (is_counts c)
counts_valid c v = and_true _ _ v.in_order (and_true _ _ (le_as _ _ v.few) v.positive)

pub is_counts-put : (c : CountList) (p : Proc) (n : ℕ) → IsTrue (is_counts c) → 0 < n → length (put proc_cmp p n c) ≤ 64 →
    IsTrue (is_counts (put proc_cmp p n c))
is_counts-put c p n h pos room =
    let v = valid_counts c h in
    counts_valid _ (record {
      in_order = from_T _ (is_sorted-put proc_cmp proc_total p n c
          (as_T _ v.in_order));
      few = room;
      positive = list_all-put proc_cmp (λ m. nat_lt 0 m) p n c v.positive ∙ lt_as 0 n pos;
    })

pub sorted_join : (c d : CountList) → T (is_sorted proc_cmp c) → T (is_sorted proc_cmp (join_counts c d))
sorted_join c [] h = h
sorted_join c (e ∷ d) h =
    sorted_join (put proc_cmp e.0 (max (count_of c e.0) e.1) c) d (is_sorted-put proc_cmp proc_total e.0 (max (count_of c e.0) e.1) c h)

max_positive : (m n : ℕ) → nat_lt 0 n ≡ true → nat_lt 0 (max m n) ≡ true
max_positive m n h = let at : 0 < n = lt_from 0 n h in lt_as 0 (max m n) (omega arith)

positive_join : (c d : CountList) → list_all (λ e. nat_lt 0 e.1) c ≡ true → list_all (λ e. nat_lt 0 e.1) d ≡ true →
    list_all (λ e. nat_lt 0 e.1) (join_counts c d) ≡ true
positive_join c [] h g = h
positive_join c (e ∷ d) h g =
    let parts = and_both _ _ g in
    positive_join (put proc_cmp e.0 (max (count_of c e.0) e.1) c)
    d (list_all-put proc_cmp (λ m. nat_lt 0 m) e.0 (max (count_of c e.0) e.1) c h ∙ max_positive (count_of c e.0) e.1 parts.0) parts.1

pub is_counts-join_counts : (c d : CountList) → IsTrue (is_counts c) → IsTrue (is_counts d) → length (join_counts c d) ≤ 64 →
    IsTrue (is_counts (join_counts c d))
is_counts-join_counts c d h g room =
    let v = valid_counts c h in
    counts_valid _ (record {
      in_order = from_T _ (sorted_join c d (as_T _ v.in_order));
      few = room;
      positive = positive_join c d v.positive
          (valid_counts d g).positive;
    })

-- ---- clocks
pub joined_clock_valid : (a b : Clock) → IsTrue (is_counts a.counts) → IsTrue (is_counts b.counts) →
    clock_has_room (join_clocks a b) ≡ true → IsTrue (is_counts (join_clocks a b).counts)
joined_clock_valid a b h g =
    elim (nat_cmp a.view b.view) as (λ o.
    let c = at_order o b (record { view = a.view; counts = join_counts a.counts b.counts }) a in
    clock_has_room c ≡ true → IsTrue (is_counts c.counts)) [
      | Less ↦ λ _. g
      | Equal ↦ λ room. is_counts-join_counts a.counts b.counts h g (le_from _ _ room)
      | Greater ↦ λ _. h
    ]

pub sorted_time : (t : ClockList) → IsTrue (is_time t) → IsTrue (is_sorted group_cmp t)
sorted_time t h = (and_both _ _ h).0

pub is_time-put : (t : ClockList) (g : GroupNo) (c : Clock) → IsTrue (is_time t) → IsTrue (is_counts c.counts) →
    IsTrue (is_time (put group_cmp g c t))
is_time-put t g c h valid =
    let parts = and_both _ _ h in
    and_true _ _ (from_T _ (is_sorted-put group_cmp group_total g c t (as_T _ parts.0)))
    (list_all-put group_cmp (λ x. is_counts x.counts) g c t parts.1 ∙ valid)

pub sorted_stamp : (t : ClockList) → IsTrue (is_stamp t) → IsTrue (is_sorted group_cmp t)
sorted_stamp t h = (and_both _ _ h).0

-- the counts of any group are valid
pub is_counts-clock_of : (t : ClockList) (g : GroupNo) → IsTrue (is_time t) → IsTrue (is_counts (clock_of t g).counts)
is_counts-clock_of t g h = found_or group_exact (λ _ c. is_counts c.counts) (first_clock 0) (λ _. refl) t (and_both _ _ h).1 g

roomy : (t : ClockList) → list_all (λ e. is_counts e.1.counts) t ≡ true → has_room t ≡ true
roomy [] h = refl
roomy (e ∷ t) h =
    let parts = and_both _ _ h in
    and_true _ _ (le_as _ _ (valid_counts e.1.counts parts.0).few) (roomy t parts.1)

pub has_room-time : (t : ClockList) → IsTrue (is_time t) → has_room t ≡ true
has_room-time t h = roomy t (and_both _ _ h).1

pub has_room-bumped : (t : ClockList) (g : GroupNo) (p : Proc) → IsTrue (is_time t) →
    has_room (with_bump t g p) ≡ nat_le (length (put proc_cmp p (count_in t g p + 1) (clock_of t g).counts)) 64
has_room-bumped t g p h = list_all-put group_cmp (λ c. clock_has_room c) g _ t (has_room-time t h)

-- ---- one count more
same_test : (n : ℕ) → nat_le (n + 1) 64 ≡ nat_lt n 64
same_test n = grind (arith, nat_tests)

length_put : (c : CountList) (p : Proc) (n : ℕ) → IsTrue (is_counts c) →
    length (put proc_cmp p n c) ≡ cond (is_some (find proc_cmp p c)) (length c) (length c + 1)
length_put c p n h = length-put proc_cmp proc_total p n c (as_T _ (valid_counts c h).in_order)

pub place_kept : (c : CountList) (p : Proc) (n v : ℕ) → IsTrue (is_counts c) → find proc_cmp p c ≡ Some v →
    nat_le (length (put proc_cmp p n c)) 64 ≡ true
place_kept c p n v h here =
    let same : length (put proc_cmp p n c) ≡ length c =
    length_put c p n h ∙ ap (λ (o : Option ℕ). cond (is_some o) (length c) (length c + 1)) here in
    let few : length c ≤ 64 = (valid_counts c h).few in
    le_as _ _ (omega arith)

pub place_new : (c : CountList) (p : Proc) (n : ℕ) → IsTrue (is_counts c) → find proc_cmp p c ≡ None →
    nat_le (length (put proc_cmp p n c)) 64 ≡ nat_lt (length c) 64
place_new c p n h none =
    let more : length (put proc_cmp p n c) ≡ length c + 1 =
    length_put c p n h ∙ ap (λ (o : Option ℕ). cond (is_some o) (length c) (length c + 1)) none in
    ap (λ m. nat_le m 64) more ∙ same_test (length c)

-- the clock of a group with a count of n raised
raised : (t : ClockList) (g : GroupNo) (p : Proc) (k : Clock) (n : ℕ) → k ≡ clock_of t g → n ≡ count_of k.counts p →
    put proc_cmp p (n + 1) k.counts ≡ put proc_cmp p (count_in t g p + 1) (clock_of t g).counts
raised t g p k n is counted =
    let here : n ≡ count_in t g p = counted ∙ ap (λ x. count_of x.counts p) is in
    λ i. put proc_cmp p (here i + 1) (is i).counts

pub bumped_fits : (t : ClockList) (g : GroupNo) (p : Proc) (k : Clock) (n : ℕ) (b : Bool) → IsTrue (is_time t) → k ≡ clock_of t g →
    n ≡ count_of k.counts p → b ≡ nat_le (length (put proc_cmp p (n + 1) k.counts)) 64 → has_room (with_bump t g p) ≡ b
bumped_fits t g p k n b h is counted tested =
    has_room-bumped t g p h ∙ sym (tested ∙ ap (λ x. nat_le (length x) 64) (raised t g p k n is counted))

pub bumped_valid : (t : ClockList) (g : GroupNo) (p : Proc) (k : Clock) (n : ℕ) (m : CountList) → IsTrue (is_time t) → k ≡ clock_of t g →
    nat_le (length (put proc_cmp p (n + 1) k.counts)) 64 ≡ true → m ≡ put proc_cmp p (n + 1) k.counts → IsTrue (is_counts m)
bumped_valid t g p k n m h is room made =
    let before : IsTrue (is_counts k.counts) = subst (λ x. IsTrue (is_counts x.counts)) (sym is) (is_counts-clock_of t g h) in
    subst (λ x. IsTrue (is_counts x)) (sym made) (is_counts-put k.counts p (n + 1) before (omega arith) (le_from _ _ room))
