-- The order of times, pointwise, and the join as the least time above two.
use Rattle.std.proofs.Common.{◌≡◌, ℕ, ◌≤◌, ◌<◌, true, Less, Equal, Greater, unwrap_or, Option}
use Rattle.std.proofs.Common.{Some, [], ◌∷◌, refl, sym, ap, subst, ◌∙◌, inl, inr, arith}
use Rattle.std.specs.Prelude.{IsTrue, nat_le}
use Rattle.std.specs.List.{list_all}
use Rattle.std.specs.Ordering.{nat_cmp, MatchOrdering}
use Rattle.std.specs.FinMap.Entries.{find, is_sorted}
use Rattle.std.proofs.lemmas.Bool.Decides.{nat_tests}
use Rattle.std.proofs.lemmas.Cmp.{ranked}
use Rattle.std.proofs.lemmas.Bool.{or_cases, or_left, or_right, eqb-true, eq-eqb}
use Rattle.cast_types.specs.declared.names.Proc.{Proc}
use Rattle.cast_types.specs.declared.names.GroupNo.{GroupNo}
use Rattle.cast_types.specs.declared.clock.Clock.{Clock}
use Rattle.cast_types.specs.Names.{proc_cmp, group_cmp}
use Rattle.cast_types.specs.Sets.{at_order}
use Rattle.cast_types.specs.Counts.{CountList, count_of, is_counts}
use Rattle.cast_types.specs.Stamps.{ClockList}
use Rattle.cast_clock.specs.Times.{first_clock, clock_of, counts_at_most, clock_at_most}
use Rattle.cast_clock.specs.Times.{at_most, IsAtMost, join_counts, join_clocks, join, is_time}
use Rattle.cast_clock.specs.Laws.{is_in_order, OrderIsPointwise, OrderIsReflexive, OrderIsTransitive, JoinIsAbove, JoinIsLeast}
use Rattle.cast_clock.proofs.Entries.{as_T, from_T, and_both, and_true, found_or, each_found}
use Rattle.cast_clock.proofs.Joins.{count_of-join_counts, clock_of-join}
use Rattle.cast_types.proofs.Orders.{proc_total, proc_exact, group_total, group_exact}
use Rattle.cast_clock.proofs.Rooms.{is_sorted-join}
use Rattle.cast_clock.proofs.Valid.{le_from, le_as, lt_from, lt_as, sorted_join, valid_counts}

-- ---- counts
counts_below : (c d : CountList) → counts_at_most c d ≡ true → (p : Proc) → count_of c p ≤ count_of d p
counts_below c d h p =
    le_from _ _ (found_or proc_exact (λ q n. nat_le n (count_of d q)) 0 (λ q. le_as 0 (count_of d q) (omega arith)) c h p)

counts_from_below : (c d : CountList) → IsTrue (is_sorted proc_cmp c) → ((p : Proc) → count_of c p ≤ count_of d p) →
    counts_at_most c d ≡ true
counts_from_below c d s h = each_found proc_total (λ q n. nat_le n (count_of d q)) c (as_T _ s)
    (λ q n is. le_as n (count_of d q) (subst (λ m. m ≤ count_of d q) (ap (λ (o : Option ℕ). unwrap_or o 0) is) (h q)))

-- ---- clocks
clock_below : (a b : Clock) → clock_at_most a b ≡ true → IsAtMost a b
clock_below a b h = elim (or_cases _ _ h) [
  | inl older ↦ inl (lt_from a.view b.view older)
  | inr same ↦ let parts = and_both _ _ same in inr (eqb-true a.view b.view parts.0, counts_below a.counts b.counts parts.1)
]

clock_from_below : (a b : Clock) → IsTrue (is_sorted proc_cmp a.counts) → IsAtMost a b → clock_at_most a b ≡ true
clock_from_below a b s (inl older) = or_left _ _ (lt_as a.view b.view older)
clock_from_below a b s (inr same) = or_right _ _ (and_true _ _ (eq-eqb a.view b.view same.0) (counts_from_below a.counts b.counts s same.1))

first_below : (c : Clock) → clock_at_most (first_clock 0) c ≡ true
first_below c = grind (arith, nat_tests)

clock_itself : (a : Clock) → IsAtMost a a
clock_itself a = inr (refl, λ p. omega arith)

clock_through : (a b c : Clock) → IsAtMost a b → IsAtMost b c → IsAtMost a c
clock_through a b c (inl older) (inl later) = inl (omega arith)
clock_through a b c (inl older) (inr same) = inl (subst (λ v. a.view < v) same.0 older)
clock_through a b c (inr same) (inl later) = inl (subst (λ v. v < c.view) (sym same.0) later)
clock_through a b c (inr same) (inr alike) = inr (same.0 ∙ alike.0, λ p. omega (arith, same.1 p, alike.1 p))

above_left : (a b : Clock) → IsTrue (is_sorted proc_cmp b.counts) → IsAtMost a (join_clocks a b)
above_left a b s =
    elim (nat_cmp a.view b.view) as (λ o. MatchOrdering o (a.view < b.view) (a.view ≡ b.view) (b.view < a.view) →
    IsAtMost a (at_order o b (record { view = a.view; counts = join_counts a.counts b.counts }) a)) [
      | Less ↦ λ older. inl older
      | Equal ↦ λ _. inr (refl, λ p. rw (count_of-join_counts a.counts b.counts p s) (omega arith))
      | Greater ↦ λ _. clock_itself a
    ] (ranked a.view b.view (nat_cmp a.view b.view) refl)

above_right : (a b : Clock) → IsTrue (is_sorted proc_cmp b.counts) → IsAtMost b (join_clocks a b)
above_right a b s =
    elim (nat_cmp a.view b.view) as (λ o. MatchOrdering o (a.view < b.view) (a.view ≡ b.view) (b.view < a.view) →
    IsAtMost b (at_order o b (record { view = a.view; counts = join_counts a.counts b.counts }) a)) [
      | Less ↦ λ _. clock_itself b
      | Equal ↦ λ same. inr (sym same, λ p. rw (count_of-join_counts a.counts b.counts p s) (omega arith))
      | Greater ↦ λ older. inl older
    ] (ranked a.view b.view (nat_cmp a.view b.view) refl)

same_view : (a b c : Clock) → IsTrue (is_sorted proc_cmp b.counts) → a.view ≡ b.view → IsAtMost a c → IsAtMost b c →
    IsAtMost (record { view = a.view; counts = join_counts a.counts b.counts }) c
same_view a b c s e (inl older) h = inl older
same_view a b c s e (inr same) (inl older) = inl (subst (λ v. v < c.view) (sym e) older)
same_view a b c s e (inr same) (inr alike) =
    inr (same.0, λ p. rw (count_of-join_counts a.counts b.counts p s) (omega (arith, same.1 p, alike.1 p)))

least : (a b c : Clock) → IsTrue (is_sorted proc_cmp b.counts) → IsAtMost a c → IsAtMost b c → IsAtMost (join_clocks a b) c
least a b c s ha hb =
    elim (nat_cmp a.view b.view) as (λ o. MatchOrdering o (a.view < b.view) (a.view ≡ b.view) (b.view < a.view) →
    IsAtMost (at_order o b (record { view = a.view; counts = join_counts a.counts b.counts }) a) c) [
      | Less ↦ λ _. hb
      | Equal ↦ λ same. same_view a b c s same ha hb
      | Greater ↦ λ _. ha
    ] (ranked a.view b.view (nat_cmp a.view b.view) refl)

sorted_joined : (a b : Clock) → IsTrue (is_sorted proc_cmp a.counts) → IsTrue (is_sorted proc_cmp b.counts) →
    IsTrue (is_sorted proc_cmp (join_clocks a b).counts)
sorted_joined a b ha hb =
    elim (nat_cmp a.view b.view)
    as (λ o. IsTrue (is_sorted proc_cmp (at_order o b (record { view = a.view; counts = join_counts a.counts b.counts }) a).counts)) [
      | Less ↦ hb
      | Equal ↦ from_T _ (sorted_join a.counts b.counts (as_T _ ha))
      | Greater ↦ ha
    ]

-- ---- times
sorted_counts : (t : ClockList) (g : GroupNo) → IsTrue (is_in_order t) → IsTrue (is_sorted proc_cmp (clock_of t g).counts)
sorted_counts t g h = found_or group_exact (λ _ c. is_sorted proc_cmp c.counts) (first_clock 0) (λ _. refl) t (and_both _ _ h).1 g

found_clock : (t : ClockList) (g : GroupNo) (c : Clock) → find group_cmp g t ≡ Some c → clock_of t g ≡ c
found_clock t g c is = ap (λ (o : Option Clock). unwrap_or o (first_clock 0)) is

times_below : (s t : ClockList) → at_most s t ≡ true → (g : GroupNo) → IsAtMost (clock_of s g) (clock_of t g)
times_below s t h g =
    clock_below _ _ (found_or group_exact (λ k c. clock_at_most c (clock_of t k)) (first_clock 0) (λ k. first_below (clock_of t k)) s h g)

times_from_below : (s t : ClockList) → IsTrue (is_in_order s) → ((g : GroupNo) → IsAtMost (clock_of s g) (clock_of t g)) →
    at_most s t ≡ true
times_from_below s t h all = each_found group_total (λ k c. clock_at_most c (clock_of t k)) s (as_T _ (and_both _ _ h).0)
    (λ g c is.
    let own : clock_of s g ≡ c = found_clock s g c is in
    clock_from_below c (clock_of t g) (subst (λ x. IsTrue (is_sorted proc_cmp x.counts)) own (sorted_counts s g h))
    (subst (λ x. IsAtMost x (clock_of t g)) own (all g)))

pub order_is_pointwise : OrderIsPointwise
order_is_pointwise s t h = (times_below s t, times_from_below s t h)

pub order_is_reflexive : OrderIsReflexive
order_is_reflexive s h = times_from_below s s h (λ g. clock_itself (clock_of s g))

pub order_is_transitive : OrderIsTransitive
order_is_transitive s t u h first second =
    times_from_below s u h
    (λ g. clock_through (clock_of s g) (clock_of t g) (clock_of u g) (times_below s t first g) (times_below t u second g))

in_order_join : (s t : ClockList) → IsTrue (is_in_order s) → IsTrue (is_in_order t) → IsTrue (is_in_order (join s t))
in_order_join s t hs ht =
    let both : is_sorted group_cmp (join s t) ≡ true = from_T _ (is_sorted-join s t (as_T _ (and_both _ _ hs).0)) in
    and_true _ _ both (each_found group_total (λ _ c. is_sorted proc_cmp c.counts) (join s t) (as_T _ both)
    (λ g c is.
    subst (λ x. IsTrue (is_sorted proc_cmp x.counts)) (sym (clock_of-join s t g (and_both _ _ ht).0) ∙ found_clock (join s t) g c is)
    (sorted_joined (clock_of s g) (clock_of t g) (sorted_counts s g hs) (sorted_counts t g ht))))

pub join_is_above : JoinIsAbove
join_is_above s t hs ht = (
  times_from_below s (join s t) hs (λ g. subst (IsAtMost (clock_of s g)) (sym (clock_of-join s t g (and_both _ _ ht).0))
      (above_left (clock_of s g) (clock_of t g) (sorted_counts t g ht))),
  times_from_below t (join s t) ht (λ g. subst (IsAtMost (clock_of t g)) (sym (clock_of-join s t g (and_both _ _ ht).0))
      (above_right (clock_of s g) (clock_of t g) (sorted_counts t g ht))),
)

pub join_is_least : JoinIsLeast
join_is_least s t u hs ht first second =
    times_from_below (join s t) u (in_order_join s t hs ht)
    (λ g. subst (λ x. IsAtMost x (clock_of u g)) (sym (clock_of-join s t g (and_both _ _ ht).0))
    (least (clock_of s g) (clock_of t g) (clock_of u g) (sorted_counts t g ht) (times_below s u first g) (times_below t u second g)))

counts_in_order : (t : ClockList) → list_all (λ e. is_counts e.1.counts) t ≡ true → list_all (λ e. is_sorted proc_cmp e.1.counts) t ≡ true
counts_in_order [] h = refl
counts_in_order (e ∷ t) h =
    let parts = and_both _ _ h in
    and_true _ _ (valid_counts e.1.counts parts.0).in_order (counts_in_order t parts.1)

-- a time is in order
pub in_order_time : (t : ClockList) → IsTrue (is_time t) → IsTrue (is_in_order t)
in_order_time t h = and_true _ _ (and_both _ _ h).0 (counts_in_order t (and_both _ _ h).1)
