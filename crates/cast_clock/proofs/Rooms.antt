-- How many counts a join has, and whether each of its clocks has room, with no join made.
use Rattle.std.proofs.Common.{◌≡◌, ℕ, ◌+◌, Bool, true, false, not, cond, max, [], ◌∷◌, length}
use Rattle.std.proofs.Common.{Option, Some, unwrap_or, Less, refl, sym, ap, subst, ◌∙◌, arith}
use Rattle.std.specs.Prelude.{T, IsTrue, is_some}
use Rattle.std.specs.List.{count_by}
use Rattle.std.specs.Ordering.{is_eq, eq_by_cmp, ordering_reverse}
use Rattle.std.specs.FinMap.Entries.{find, put, find-put, length-put, below_all, is_sorted, is_sorted-put}
use Rattle.std.proofs.lemmas.List.Sums.{sum_by-cons}
use Rattle.cast_types.specs.declared.names.Proc.{Proc}
use Rattle.cast_types.specs.declared.names.GroupNo.{GroupNo}
use Rattle.cast_types.specs.declared.clock.Clock.{Clock}
use Rattle.cast_types.specs.Names.{Entry, proc_cmp, group_cmp}
use Rattle.cast_types.specs.Counts.{CountList, count_of}
use Rattle.cast_types.specs.Stamps.{ClockList}
use Rattle.cast_clock.specs.Times.{first_clock, clock_of, join_counts, join_clocks, join, clock_has_room, has_room}
use Rattle.cast_clock.proofs.Entries.{both_parts, less_is, found_or, each_found}
use Rattle.cast_clock.proofs.Joins.{clock_of-join}
use Rattle.cast_types.proofs.Orders.{proc_total, group_total, group_exact}

-- ---- counts
abbrev pub lacks : CountList → Entry → Bool
lacks c e = not (is_some (find proc_cmp e.0 c))

-- a count of a process below all others changes nothing of what they lack
lacks_below : (k : Proc) (v : ℕ) (c d : CountList) → T (below_all proc_cmp k d) →
    count_by (lacks (put proc_cmp k v c)) d ≡ count_by (lacks c) d
lacks_below k v c [] h = refl
lacks_below k v c (e ∷ d) h =
    let below : proc_cmp k e.0 ≡ Less = less_is _ (both_parts _ _ h).0 in
    let other : eq_by_cmp proc_cmp e.0 k ≡ false = ap is_eq (proc_total.antisymm e.0 k ∙ ap ordering_reverse below) in
    let same : lacks (put proc_cmp k v c) e ≡ lacks c e =
    ap (λ (o : Option ℕ). not (is_some o))
    (find-put proc_cmp proc_total e.0 k v c ∙ ap (λ b. cond b (Some v) (find proc_cmp e.0 c)) other) in
    sum_by-cons (λ x. cond (lacks (put proc_cmp k v c) x) 1 0) e d
    ∙ ap (λ b. cond b 1 0 + count_by (lacks (put proc_cmp k v c)) d) same
    ∙ ap (λ n. cond (lacks c e) 1 0 + n) (lacks_below k v c d (both_parts _ _ h).1)
    ∙ sym (sum_by-cons (λ x. cond (lacks c x) 1 0) e d)

one_more : (b : Bool) (n : ℕ) → cond b n (n + 1) ≡ n + cond (not b) 1 0
one_more true n = omega arith
one_more false n = omega arith

-- the counts of a join: those of the first, and those of the second that the first lack
pub length-join_counts : (c d : CountList) → T (is_sorted proc_cmp c) → T (is_sorted proc_cmp d) →
    length (join_counts c d) ≡ length c + count_by (lacks c) d
length-join_counts c [] h g = omega arith
length-join_counts c (e ∷ d) h g =
    let parts = both_parts (below_all proc_cmp e.0 d) (is_sorted proc_cmp d) g in
    let v : ℕ = max (count_of c e.0) e.1 in
    let rest : length (join_counts (put proc_cmp e.0 v c) d) ≡ length (put proc_cmp e.0 v c) + count_by (lacks (put proc_cmp e.0 v c)) d =
    length-join_counts (put proc_cmp e.0 v c) d (is_sorted-put proc_cmp proc_total e.0 v c h) parts.1 in
    let here : length (put proc_cmp e.0 v c) ≡ length c + cond (lacks c e) 1 0 =
    length-put proc_cmp proc_total e.0 v c h ∙ one_more (is_some (find proc_cmp e.0 c)) (length c) in
    let same : count_by (lacks (put proc_cmp e.0 v c)) d ≡ count_by (lacks c) d = lacks_below e.0 v c d parts.0 in
    let split : count_by (lacks c) (e ∷ d) ≡ cond (lacks c e) 1 0 + count_by (lacks c) d = sum_by-cons (λ x. cond (lacks c x) 1 0) e d in
    let joined : length (join_counts c (e ∷ d)) ≡ length (join_counts (put proc_cmp e.0 v c) d) = refl in
    omega arith

-- ---- clocks
-- the joined clock of a group has room
abbrev pub fits : ClockList → ClockList → GroupNo → Bool
fits s t g = clock_has_room (join_clocks (clock_of s g) (clock_of t g))

pub is_sorted-join : (s t : ClockList) → T (is_sorted group_cmp s) → T (is_sorted group_cmp (join s t))
is_sorted-join s [] h = h
is_sorted-join s (e ∷ t) h =
    is_sorted-join (put group_cmp e.0 (join_clocks (clock_of s e.0) e.1) s)
    t (is_sorted-put group_cmp group_total e.0 (join_clocks (clock_of s e.0) e.1) s h)

-- where each clock of a join has room, so has that of any group
pub fits_from_room : (s t : ClockList) → IsTrue (is_sorted group_cmp t) → has_room (join s t) ≡ true → (g : GroupNo) → fits s t g ≡ true
fits_from_room s t h room g =
    subst (λ c. clock_has_room c ≡ true) (clock_of-join s t g h)
    (found_or group_exact (λ _ c. clock_has_room c) (first_clock 0) (λ _. refl) (join s t) room g)

pub room_from_fits : (s t : ClockList) → T (is_sorted group_cmp s) → IsTrue (is_sorted group_cmp t) → ((g : GroupNo) → fits s t g ≡ true) →
    has_room (join s t) ≡ true
room_from_fits s t hs ht all =
    each_found group_total (λ _ c. clock_has_room c) (join s t) (is_sorted-join s t hs) (λ g c is. subst (λ x. clock_has_room x ≡ true)
    (sym (clock_of-join s t g ht) ∙ ap (λ (o : Option Clock). unwrap_or o (first_clock 0)) is) (all g))
