-- What a raised count and a view that begins change, and what they leave.
use Rattle.std.proofs.Common.{◌≡◌, ◌≢◌, ℕ, ◌+◌, true, false, cond, Option, Some, unwrap_or, refl, sym, ap, subst, ◌∙◌, ◌⊎◌, inl, inr}
use Rattle.std.specs.Prelude.{IsTrue}
use Rattle.std.proofs.Common.{Ordering}
use Rattle.std.specs.Ordering.{is_eq, eq_by_cmp}
use Rattle.std.specs.Cmp.{IsTotalOrder}
use Rattle.std.specs.FinMap.Entries.{find, put, find-put, is_sorted}
use Rattle.std.proofs.lemmas.Cmp.{tied_itself}
use Rattle.std.proofs.lemmas.Map.Lookups.{CmpEqualImpliesEq}
use Rattle.std.proofs.lemmas.Bool.{cases_Bool, false≢true, false_from_ne_true}
use Rattle.cast_types.specs.declared.names.Proc.{Proc}
use Rattle.cast_types.specs.declared.names.GroupNo.{GroupNo}
use Rattle.cast_types.specs.declared.clock.Clock.{Clock}
use Rattle.cast_types.specs.Names.{proc_cmp, group_cmp}
use Rattle.cast_types.specs.Counts.{CountList, count_of, is_counts}
use Rattle.cast_types.specs.Stamps.{ClockList}
use Rattle.cast_clock.specs.Times.{first_clock, clock_of, view_of, count_in, with_bump, join}
use Rattle.cast_clock.specs.Laws.{BumpRaises, BumpLeavesCounts, BumpLeavesViews, EnterBegins}
use Rattle.cast_clock.specs.Laws.{EnterLeaves, JoinIsTime, BumpIsTime, EnterIsTime}
use Rattle.cast_clock.proofs.Entries.{equal_is, as_T, from_T, and_true, each_found}
use Rattle.cast_clock.proofs.Joins.{clock_of-join}
use Rattle.cast_types.proofs.Orders.{proc_total, proc_exact, group_total, group_exact}
use Rattle.cast_clock.proofs.Rooms.{is_sorted-join, fits_from_room}
use Rattle.cast_clock.proofs.Valid.{sorted_time, is_counts-clock_of, joined_clock_valid, is_time-put, bumped_valid, has_room-bumped}

tie_self : {K : Type 0} {R : K → K → Ordering} → IsTotalOrder R → (x : K) → eq_by_cmp R x x ≡ true
tie_self o x = ap is_eq (tied_itself o x)

tie_other : {K : Type 0} {R : K → K → Ordering} → CmpEqualImpliesEq R → (x y : K) → x ≢ y → eq_by_cmp R x y ≡ false
tie_other {R = R} exact x y differ = false_from_ne_true (eq_by_cmp R x y) (λ e. differ (exact x y (equal_is _ e)))

-- one clock put, read at its group and at any other
clock_put : (t : ClockList) (g : GroupNo) (c : Clock) → clock_of (put group_cmp g c t) g ≡ c
clock_put t g c =
    ap (λ (o : Option Clock). unwrap_or o (first_clock 0))
    (find-put group_cmp group_total g g c t ∙ ap (λ b. cond b (Some c) (find group_cmp g t)) (tie_self group_total g))

clock_put_other : (t : ClockList) (g h : GroupNo) (c : Clock) → h ≢ g → clock_of (put group_cmp g c t) h ≡ clock_of t h
clock_put_other t g h c differ =
    ap (λ (o : Option Clock). unwrap_or o (first_clock 0))
    (find-put group_cmp group_total h g c t ∙ ap (λ b. cond b (Some c) (find group_cmp h t)) (tie_other group_exact h g differ))

count_put : (c : CountList) (p : Proc) (n : ℕ) → count_of (put proc_cmp p n c) p ≡ n
count_put c p n =
    ap (λ (o : Option ℕ). unwrap_or o 0)
    (find-put proc_cmp proc_total p p n c ∙ ap (λ b. cond b (Some n) (find proc_cmp p c)) (tie_self proc_total p))

count_put_other : (c : CountList) (p q : Proc) (n : ℕ) → q ≢ p → count_of (put proc_cmp p n c) q ≡ count_of c q
count_put_other c p q n differ =
    ap (λ (o : Option ℕ). unwrap_or o 0)
    (find-put proc_cmp proc_total q p n c ∙ ap (λ b. cond b (Some n) (find proc_cmp q c)) (tie_other proc_exact q p differ))

-- a group is this one or another
group_cases : (h g : GroupNo) → (h ≡ g) ⊎ (h ≢ g)
group_cases h g = elim (cases_Bool (eq_by_cmp group_cmp h g)) [
  | inl same ↦ inl (group_exact h g (equal_is _ same))
  | inr other ↦ inr (λ e. false≢true (sym other ∙ ap (λ k. eq_by_cmp group_cmp h k) (sym e) ∙ tie_self group_total h))
]

pub bump_raises : BumpRaises
bump_raises t g p = ap (λ c. count_of c.counts p) (clock_put t g _) ∙ count_put (clock_of t g).counts p (count_in t g p + 1)

pub bump_leaves_counts : BumpLeavesCounts
bump_leaves_counts t g h p q (inl other) = ap (λ c. count_of c.counts q) (clock_put_other t g h _ other)
bump_leaves_counts t g h p q (inr other) = elim (group_cases h g) [
  | inl same ↦
      subst (λ k. count_in (with_bump t g p) k q ≡ count_in t k q) (sym same)
      (ap (λ c. count_of c.counts q) (clock_put t g _) ∙ count_put_other (clock_of t g).counts p q _ other)
  | inr differ ↦ ap (λ c. count_of c.counts q) (clock_put_other t g h _ differ)
]

pub bump_leaves_views : BumpLeavesViews
bump_leaves_views t g h p = elim (group_cases h g) [
  | inl same ↦ subst (λ k. view_of (with_bump t g p) k ≡ view_of t k) (sym same) (ap (λ c. c.view) (clock_put t g _))
  | inr differ ↦ ap (λ c. c.view) (clock_put_other t g h _ differ)
]

pub enter_begins : EnterBegins
enter_begins t g view = clock_put t g (first_clock view)

pub enter_leaves : EnterLeaves
enter_leaves t g h view differ = clock_put_other t g h (first_clock view) differ

pub join_is_time : JoinIsTime
join_is_time s t hs ht room =
    let in_order : IsTrue (is_sorted group_cmp (join s t)) = from_T _ (is_sorted-join s t (as_T _ (sorted_time s hs))) in
    and_true _ _ in_order (each_found group_total (λ _ c. is_counts c.counts) (join s t) (as_T _ in_order)
    (λ g c is. subst (λ x. IsTrue (is_counts x.counts))
    (sym (clock_of-join s t g (sorted_time t ht)) ∙ ap (λ (o : Option Clock). unwrap_or o (first_clock 0)) is)
    (joined_clock_valid (clock_of s g) (clock_of t g) (is_counts-clock_of s g hs) (is_counts-clock_of t g ht)
    (fits_from_room s t (sorted_time t ht) room g))))

pub bump_is_time : BumpIsTime
bump_is_time t g p h room =
    is_time-put t g _ h (bumped_valid t g p (clock_of t g) (count_in t g p) _ h refl (sym (has_room-bumped t g p h) ∙ room) refl)

pub enter_is_time : EnterIsTime
enter_is_time t g view h = is_time-put t g (first_clock view) h refl
