-- What times cover: joins, counts that are raised, and views that are entered, cover all that was
-- covered.
-- A time covers a message where it counts the message. `join_covers` and `below_join` say that a
-- join covers what either time covers, `below_bumped` says so of a count that is raised, and
-- `below_entering` of a view that is entered. Each changes the clock of one group, or takes the
-- greater one for each group; a clock of a later view covers all of the views before it. The rest
-- keeps times in order.
use Rattle.std.proofs.Common.{Equal, Greater, Less, Ordering, ap, arith, inl, inr, subst, sym, ◌∙◌}
use Rattle.std.proofs.lemmas.Bool.{and_parts, cases_lt, eq-eqb, false≢true, le-leb, or_right}
use Rattle.std.proofs.lemmas.Cmp.{nat_cmp_total, on_total, then_total, tied_itself}
use Rattle.std.proofs.lemmas.Map.Lookups.{CmpEqualImpliesEq, exact_pairs, exact_unsigned}
use Rattle.std.proofs.lemmas.Map.Views.{tells_apart}
use Rattle.std.specs.Cmp.{IsTotalOrder, nat_cmp_is}
use Rattle.std.specs.FinMap.Entries.{below_all, find, find-put, is_sorted, is_sorted-put, put}
use Rattle.std.specs.List.{list_all}
use Rattle.std.specs.Ordering.{eq_by_cmp, is_eq, is_lt, nat_cmp}
use Rattle.std.specs.Prelude.{◌&&◌, ◌+◌, ◌<◌, ◌==◌, Bool, Contains, List, Option, Some, T, [], cond, false, max}
use Rattle.std.specs.Prelude.{nat_le, nat_lt, refl, suc, true, unwrap_or, zero, ◌||◌, ℕ, ◌∷◌, ◌≡◌, ◌≤◌, ◌⊎◌}
use Rattle.cast_clock.specs.Times.{at_most, with_bump, clock_at_most, clock_of, count_in, counts_at_most}
use Rattle.cast_clock.specs.Times.{entering, first_clock, join, join_clocks, join_counts, view_of}
use Rattle.cast_types.specs.Counts.{CountList, count_of}
use Rattle.cast_types.specs.Names.{Entry, group_cmp, proc_cmp}
use Rattle.cast_types.specs.Sets.{at_order}
use Rattle.cast_types.specs.Stamps.{ClockList}
use Rattle.cast_types.specs.declared.clock.Clock.{Clock}
use Rattle.cast_types.specs.declared.names.GroupNo.{GroupNo}
use Rattle.cast_types.specs.declared.names.Proc.{Proc}
use Rattle.cast_types.specs.declared.names.Uid.{Uid}
use Rattle.cast_world.proofs.Facts.{IsSorted}
use Rattle.cast_world.specs.Laws.{Below, Covers}

pub procs_total : IsTotalOrder proc_cmp
procs_total = then_total (on_total (λ p. p.site.0) nat_cmp_total) (on_total (λ p. p.serial) nat_cmp_total)

pub groups_total : IsTotalOrder group_cmp
groups_total = on_total (λ g. g.0) nat_cmp_total

group_exact : CmpEqualImpliesEq group_cmp
group_exact g h e = ap (λ k. record { 0 = k }) (exact_unsigned g.0 h.0 e)

pub proc_exact : CmpEqualImpliesEq proc_cmp
proc_exact p q e =
    let same = exact_pairs nat_cmp nat_cmp exact_unsigned exact_unsigned (p.site.0, p.serial) (q.site.0, q.serial) e in
    λ i. record { site = record { 0 = (same i).0 }; serial = (same i).1 }

pub unwrapped : {A : Type 0} (b : Bool) (x d : A) (o : Option A) → unwrap_or (cond b (Some x) o) d ≡ cond b x (unwrap_or o d)
unwrapped true x d o = refl
unwrapped false x d o = refl

count_of-put : (c : CountList) (k : Proc) (n : ℕ) (p : Proc) →
    count_of (put proc_cmp k n c) p ≡ cond (eq_by_cmp proc_cmp p k) n (count_of c p)
count_of-put c k n p = ap (λ o. unwrap_or o 0) (find-put proc_cmp procs_total p k n c) ∙ unwrapped (eq_by_cmp proc_cmp p k) n 0 _

clock_of-put : (t : ClockList) (k : GroupNo) (c : Clock) (g : GroupNo) →
    clock_of (put group_cmp k c t) g ≡ cond (eq_by_cmp group_cmp g k) c (clock_of t g)
clock_of-put t k c g =
    ap (λ o. unwrap_or o (first_clock 0)) (find-put group_cmp groups_total g k c t)
    ∙ unwrapped (eq_by_cmp group_cmp g k) c (first_clock 0) _

pub tied_to : {K : Type 0} (R : K → K → Ordering) → IsTotalOrder R → (a b : K) → a ≡ b → eq_by_cmp R a b ≡ true
tied_to R o a b e = subst (λ c. eq_by_cmp R a c ≡ true) e (ap is_eq (tied_itself o a))

-- a clock alone
abbrev ClockCovers : Clock → ℕ → Proc → ℕ → Type 0
ClockCovers c v p n = (v < c.view) ⊎ ((v ≡ c.view) × (n ≤ count_of c.counts p))

abbrev Rises : Clock → Clock → Type 0
Rises a b = (v : ℕ) (p : Proc) (n : ℕ) → ClockCovers a v p n → ClockCovers b v p n

pub put_rises : (t : ClockList) (k : GroupNo) (c : Clock) → Rises (clock_of t k) c → Below t (put group_cmp k c t)
put_rises t k c up u has =
    subst (λ d. ClockCovers d u.view u.proc u.count) (sym (clock_of-put t k c u.group)) (go (eq_by_cmp group_cmp u.group k) refl)
  where
    go : (b : Bool) → eq_by_cmp group_cmp u.group k ≡ b → ClockCovers (cond b c (clock_of t u.group)) u.view u.proc u.count
    go true e =
        up u.view u.proc u.count (subst (λ g. ClockCovers (clock_of t g) u.view u.proc u.count) (tells_apart group_exact u.group k e) has)
    go false e = has

put_covers : (t : ClockList) (k : GroupNo) (c : Clock) (u : Uid) → u.group ≡ k → ClockCovers c u.view u.proc u.count →
    Covers (put group_cmp k c t) u
put_covers t k c u same has =
    subst (λ d. ClockCovers d u.view u.proc u.count) (sym (clock_of-put t k c u.group))
    (subst (λ b. ClockCovers (cond b c (clock_of t u.group)) u.view u.proc u.count)
    (sym (tied_to group_cmp groups_total u.group k same)) has)

count_rises : (c : CountList) (k : Proc) (n : ℕ) → count_of c k ≤ n → (p : Proc) → count_of c p ≤ count_of (put proc_cmp k n c) p
count_rises c k n le p = subst (λ m. count_of c p ≤ m) (sym (count_of-put c k n p)) (go (eq_by_cmp proc_cmp p k) refl)
  where
    go : (b : Bool) → eq_by_cmp proc_cmp p k ≡ b → count_of c p ≤ cond b n (count_of c p)
    go true e = subst (λ q. count_of c q ≤ n) (sym (tells_apart proc_exact p k e)) le
    go false e = omega arith

pub below_bumped : (t : ClockList) (g : GroupNo) (p : Proc) → Below t (with_bump t g p)
below_bumped t g p = put_rises t g _ (λ v q n. elim [
  | inl low ↦ inl low
  | inr (same, le) ↦ inr (same, let up = count_rises (clock_of t g).counts p (count_in t g p + 1) (omega arith) q in omega (arith, le, up))
])

pub below_entering : (t : ClockList) (g : GroupNo) (n : ℕ) → view_of t g < n → Below t (entering t g n)
below_entering t g n lt =
    put_rises t g (first_clock n)
    (λ v q k. elim [ inl low ↦ inl (omega (arith, low, lt)) | inr (same, le) ↦ inl (omega (arith, same, lt)) ])

joined_left : (c d : CountList) (p : Proc) → count_of c p ≤ count_of (join_counts c d) p
joined_left c [] p = omega arith
joined_left c (e ∷ d) p =
    let one = count_rises c e.0 (max (count_of c e.0) e.1) (omega arith) p in
    let two = joined_left (put proc_cmp e.0 (max (count_of c e.0) e.1) c) d p in
    omega (arith, one, two)

joined_right : (c d : CountList) (p : Proc) → count_of d p ≤ count_of (join_counts c d) p
joined_right c [] p = omega arith
joined_right c (e ∷ d) p =
    subst (λ n. n ≤ count_of (join_counts c (e ∷ d)) p) (sym (unwrapped (eq_by_cmp proc_cmp p e.0) e.1 0 (find proc_cmp p d)))
    (go (eq_by_cmp proc_cmp p e.0) refl (joined_right next d p) (joined_left next d p))
  where
    next : CountList
    next = put proc_cmp e.0 (max (count_of c e.0) e.1) c

    go : (b : Bool) → eq_by_cmp proc_cmp p e.0 ≡ b → count_of d p ≤ count_of (join_counts next d) p →
        count_of next p ≤ count_of (join_counts next d) p →
        cond b e.1 (count_of d p) ≤ count_of (join_counts next d) p
    go true tie right left =
        let put_is : count_of next p ≡ max (count_of c e.0) e.1 =
        count_of-put c e.0 (max (count_of c e.0) e.1) p ∙ ap (λ b. cond b (max (count_of c e.0) e.1) (count_of c p)) tie in
        omega (arith, left, put_is)
    go false tie right left = right

abbrev both : Clock → Clock → Clock
both a b = record { view = a.view; counts = join_counts a.counts b.counts }

-- by the order of the views
module _ (a b : Clock) (P : Clock → Type 0) (less : a.view < b.view → P b) (equal : a.view ≡ b.view → P (both a b))
    (greater : b.view < a.view → P a) where
  pub by_views : P (join_clocks a b)
  by_views = elim (cases_lt a.view b.view) [
    | inl lt ↦ subst (λ o. P (at_order o b (both a b) a)) (nat_cmp_is a.view b.view Less lt) (less lt)
    | inr ge ↦ elim (cases_lt b.view a.view) [
      | inl gt ↦ subst (λ o. P (at_order o b (both a b) a)) (nat_cmp_is a.view b.view Greater gt) (greater gt)
      | inr le ↦
          let same : a.view ≡ b.view = omega (arith, ge, le) in
          subst (λ o. P (at_order o b (both a b) a)) (nat_cmp_is a.view b.view Equal same) (equal same)
    ]
  ]

clocks_left : (a b : Clock) → Rises a (join_clocks a b)
clocks_left a b v p n has = by_views a b (λ c. ClockCovers c v p n)
    (λ lt. elim has [ inl low ↦ inl (omega (arith, low, lt)) | inr (same, le) ↦ inl (omega (arith, same, lt)) ])
    (λ e. elim has [ inl low ↦ inl low | inr (same, le) ↦ inr (same, let up = joined_left a.counts b.counts p in omega (arith, up, le)) ])
    (λ gt. has)

clocks_right : (a b : Clock) → Rises b (join_clocks a b)
clocks_right a b v p n has = by_views a b (λ c. ClockCovers c v p n)
    (λ lt. has)
    (λ e. elim has [
      | inl low ↦ inl (omega (arith, low, e))
      | inr (same, le) ↦ inr (same ∙ sym e, let up = joined_right a.counts b.counts p in omega (arith, up, le))
    ])
    (λ gt. elim has [ inl low ↦ inl (omega (arith, low, gt)) | inr (same, le) ↦ inl (omega (arith, same, gt)) ])

pub below_join : (s t : ClockList) → Below s (join s t)
below_join s [] u has = has
below_join s (e ∷ t) u has =
    below_join (put group_cmp e.0 (join_clocks (clock_of s e.0) e.1) s) t u (put_rises s e.0 _ (clocks_left (clock_of s e.0) e.1) u has)

pub join_covers : (s t : ClockList) → Below t (join s t)
join_covers s [] u has = elim has [
  | inl low ↦ absurd (omega (arith, low))
  | inr (same, le) ↦ elim (cases_lt 0 (view_of s u.group)) [
    | inl up ↦ inl (omega (arith, same, up))
    | inr down ↦ inr (omega (arith, same, down), omega (arith, le))
  ]
]
join_covers s (e ∷ t) u has = go (eq_by_cmp group_cmp u.group e.0) refl (join_covers next t u) (below_join next t u)
  where
    next : ClockList
    next = put group_cmp e.0 (join_clocks (clock_of s e.0) e.1) s

    is : clock_of (e ∷ t) u.group ≡ cond (eq_by_cmp group_cmp u.group e.0) e.1 (clock_of t u.group)
    is = unwrapped (eq_by_cmp group_cmp u.group e.0) e.1 (first_clock 0) (find group_cmp u.group t)

    go : (b : Bool) → eq_by_cmp group_cmp u.group e.0 ≡ b → (Covers t u → Covers (join next t) u) →
        (Covers next u → Covers (join next t) u) → Covers (join next t) u
    go true tie right left = left (put_covers s e.0 (join_clocks (clock_of s e.0) e.1) u (tells_apart group_exact u.group e.0 tie)
        (clocks_right (clock_of s e.0) e.1 u.view u.proc u.count
        (subst (λ c. ClockCovers c u.view u.proc u.count) (is ∙ ap (λ b. cond b e.1 (clock_of t u.group)) tie) has)))
    go false tie right left =
        right (subst (λ c. ClockCovers c u.view u.proc u.count) (is ∙ ap (λ b. cond b e.1 (clock_of t u.group)) tie) has)

-- each group stands once in a time
abbrev pub Once : ClockList → Type 0
Once [] = record {}
Once (e ∷ t) = (clock_of t e.0 ≡ first_clock 0) × Once t

pub view_join : (s t : ClockList) → Once t → (g : GroupNo) (n : ℕ) → view_of s g ≤ n → view_of t g ≤ n → view_of (join s t) g ≤ n
view_join s [] once g n one two = one
view_join s (e ∷ t) once g n one two = go (eq_by_cmp group_cmp g e.0) refl (view_join next t once.1 g n)
  where
    next : ClockList
    next = put group_cmp e.0 (join_clocks (clock_of s e.0) e.1) s

    next_is : clock_of next g ≡ cond (eq_by_cmp group_cmp g e.0) (join_clocks (clock_of s e.0) e.1) (clock_of s g)
    next_is = clock_of-put s e.0 (join_clocks (clock_of s e.0) e.1) g

    is : clock_of (e ∷ t) g ≡ cond (eq_by_cmp group_cmp g e.0) e.1 (clock_of t g)
    is = unwrapped (eq_by_cmp group_cmp g e.0) e.1 (first_clock 0) (find group_cmp g t)

    go : (b : Bool) → eq_by_cmp group_cmp g e.0 ≡ b → (view_of next g ≤ n → view_of t g ≤ n → view_of (join next t) g ≤ n) →
        view_of (join next t) g ≤ n
    go true tie more =
        let same = tells_apart group_exact g e.0 tie in
        let left : (clock_of s e.0).view ≤ n = subst (λ h. view_of s h ≤ n) same one in
        let right : e.1.view ≤ n = subst (λ (c : Clock). c.view ≤ n) (is ∙ ap (λ b. cond b e.1 (clock_of t g)) tie) two in
        let none : view_of t g ≡ 0 = ap (λ h. view_of t h) same ∙ ap (λ (c : Clock). c.view) once.0 in
        more (subst (λ (c : Clock). c.view ≤ n) (sym (next_is ∙ ap (λ b. cond b (join_clocks (clock_of s e.0) e.1) (clock_of s g)) tie))
        (by_views (clock_of s e.0) e.1 (λ c. c.view ≤ n) (λ lt. right) (λ e. left) (λ gt. left))) (omega (arith, none))
    go false tie more =
        more
        (subst (λ (c : Clock). c.view ≤ n) (sym (next_is ∙ ap (λ b. cond b (join_clocks (clock_of s e.0) e.1) (clock_of s g)) tie)) one)
        (subst (λ (c : Clock). c.view ≤ n) (is ∙ ap (λ b. cond b e.1 (clock_of t g)) tie) two)

pub below_view : (s t : ClockList) → Below s t → (g : GroupNo) → view_of s g ≤ view_of t g
below_view s t up g =
    elim (up record { group = g; view = view_of s g; proc = record { site = record { 0 = 0 }; serial = 0 }; count = 0 }
    (inr (refl, omega arith))) [ inl lt ↦ omega (arith, lt) | inr (same, le) ↦ omega (arith, same) ]

pub bumped_covers : (t : ClockList) (g : GroupNo) (p : Proc) (u : Uid) → u.group ≡ g → u.proc ≡ p → u.view ≡ view_of t g →
    u.count ≡ count_in t g p + 1 → Covers (with_bump t g p) u
bumped_covers t g p u group proc view count =
    put_covers t g _ u group (inr (view, subst (λ n. u.count ≤ n) (sym here) (omega (arith, count))))
  where
    here : count_of (put proc_cmp p (count_in t g p + 1) (clock_of t g).counts) u.proc ≡ count_in t g p + 1
    here =
        count_of-put (clock_of t g).counts p (count_in t g p + 1) u.proc
        ∙ ap (λ b. cond b (count_in t g p + 1) (count_of (clock_of t g).counts u.proc)) (tied_to proc_cmp procs_total u.proc p proc)

pub bumped_view : (t : ClockList) (g : GroupNo) (p : Proc) (h : GroupNo) → view_of (with_bump t g p) h ≡ view_of t h
bumped_view t g p h = ap (λ (c : Clock). c.view) (clock_of-put t g _ h) ∙ go (eq_by_cmp group_cmp h g) refl
  where
    go : (b : Bool) → eq_by_cmp group_cmp h g ≡ b →
        (cond b (record { view = view_of t g; counts = put proc_cmp p (count_in t g p + 1) (clock_of t g).counts }) (clock_of t h)).view
        ≡ view_of t h
    go true tie = ap (view_of t) (sym (tells_apart group_exact h g tie))
    go false tie = refl

pub entered_view : (t : ClockList) (g : GroupNo) (n : ℕ) → view_of (entering t g n) g ≡ n
entered_view t g n =
    ap (λ (c : Clock). c.view)
    (clock_of-put t g (first_clock n) g ∙ ap (λ b. cond b (first_clock n) (clock_of t g)) (tied_to group_cmp groups_total g g refl))

-- entering a view of one group leaves the clocks of others
pub other_clock : (t : ClockList) (g : GroupNo) (n : ℕ) (h : GroupNo) → (g ≡ h → ⊥) → clock_of (entering t g n) h ≡ clock_of t h
other_clock t g n h other = clock_of-put t g (first_clock n) h ∙ go (eq_by_cmp group_cmp h g) refl
  where
    go : (b : Bool) → eq_by_cmp group_cmp h g ≡ b → cond b (first_clock n) (clock_of t h) ≡ clock_of t h
    go true tie = absurd (other (sym (tells_apart group_exact h g tie)))
    go false tie = refl

pub other_view : (t : ClockList) (g : GroupNo) (n : ℕ) (h : GroupNo) → (g ≡ h → ⊥) → view_of (entering t g n) h ≡ view_of t h
other_view t g n h other = ap (λ (c : Clock). c.view) (other_clock t g n h other)

pub bumped_count : (t : ClockList) (g : GroupNo) (p : Proc) → count_in (with_bump t g p) g p ≡ count_in t g p + 1
bumped_count t g p =
    ap (λ (c : Clock). count_of c.counts p)
    (clock_of-put t g next g ∙ ap (λ b. cond b next (clock_of t g)) (tied_to group_cmp groups_total g g refl))
    ∙ count_of-put (clock_of t g).counts p (count_in t g p + 1) p
    ∙ ap (λ b. cond b (count_in t g p + 1) (count_of (clock_of t g).counts p)) (tied_to proc_cmp procs_total p p refl)
  where
    next : Clock
    next = record { view = view_of t g; counts = put proc_cmp p (count_in t g p + 1) (clock_of t g).counts }

-- times stay in order

pub from_true : (b : Bool) → b ≡ true → T b
from_true b e = subst T (sym e) tt

pub to_true : (b : Bool) → T b → b ≡ true
to_true true h = refl
to_true false h = absurd h

pub put_sorted : (k : GroupNo) (c : Clock) (t : ClockList) → is_sorted group_cmp t ≡ true → is_sorted group_cmp (put group_cmp k c t) ≡ true
put_sorted k c t e = to_true _ (is_sorted-put group_cmp groups_total k c t (from_true _ e))

pub join_sorted : (s t : ClockList) → is_sorted group_cmp s ≡ true → is_sorted group_cmp (join s t) ≡ true
join_sorted s [] e = e
join_sorted s (x ∷ t) e =
    join_sorted (put group_cmp x.0 (join_clocks (clock_of s x.0) x.1) s) t (put_sorted x.0 (join_clocks (clock_of s x.0) x.1) s e)

missing : (g : GroupNo) (t : ClockList) → below_all group_cmp g t ≡ true → clock_of t g ≡ first_clock 0
missing g [] e = refl
missing g (x ∷ t) e = go (group_cmp g x.0) (and_parts _ _ e).0 (missing g t (and_parts _ _ e).1)
  where
    go : (o : Ordering) → is_lt o ≡ true → clock_of t g ≡ first_clock 0 →
        unwrap_or (cond (is_eq o) (Some x.1) (find group_cmp g t)) (first_clock 0) ≡ first_clock 0
    go Less lt more = more
    go Equal lt more = absurd (false≢true lt)
    go Greater lt more = more

pub sorted_once : (t : ClockList) → is_sorted group_cmp t ≡ true → Once t
sorted_once [] e = record {}
sorted_once (x ∷ t) e = let both_are = and_parts _ _ e in (missing x.0 t both_are.0, sorted_once t both_are.1)

-- the counts of each clock, in order

counts_put : (k : Proc) (n : ℕ) (c : CountList) → is_sorted proc_cmp c ≡ true → is_sorted proc_cmp (put proc_cmp k n c) ≡ true
counts_put k n c e = to_true _ (is_sorted-put proc_cmp procs_total k n c (from_true _ e))

counts_join : (c d : CountList) → is_sorted proc_cmp c ≡ true → is_sorted proc_cmp (join_counts c d) ≡ true
counts_join c [] e = e
counts_join c (x ∷ d) e = counts_join (put proc_cmp x.0 (max (count_of c x.0) x.1) c) d (counts_put x.0 (max (count_of c x.0) x.1) c e)

abbrev CountsSorted : ClockList → Type 0
CountsSorted t = (g : GroupNo) → is_sorted proc_cmp (clock_of t g).counts ≡ true

clocks_put : (k : GroupNo) (c : Clock) (t : ClockList) → CountsSorted t → is_sorted proc_cmp c.counts ≡ true →
    CountsSorted (put group_cmp k c t)
clocks_put k c t all one g =
    subst (λ (d : Clock). is_sorted proc_cmp d.counts ≡ true) (sym (clock_of-put t k c g)) (go (eq_by_cmp group_cmp g k))
  where
    go : (b : Bool) → is_sorted proc_cmp (cond b c (clock_of t g)).counts ≡ true
    go true = one
    go false = all g

clocks_join : (a b : Clock) → is_sorted proc_cmp a.counts ≡ true → is_sorted proc_cmp b.counts ≡ true →
    is_sorted proc_cmp (join_clocks a b).counts ≡ true
clocks_join a b one two =
    by_views a b (λ c. is_sorted proc_cmp c.counts ≡ true) (λ lt. two) (λ e. counts_join a.counts b.counts one) (λ gt. one)

times_join : (s t : ClockList) → CountsSorted s → Once t → CountsSorted t → CountsSorted (join s t)
times_join s [] one once two = one
times_join s (x ∷ t) one once two = times_join (put group_cmp x.0 (join_clocks (clock_of s x.0) x.1) s) t
    (clocks_put x.0 (join_clocks (clock_of s x.0) x.1) s one (clocks_join (clock_of s x.0) x.1 (one x.0) head)) once.1 rest
  where
    is : (g : GroupNo) → clock_of (x ∷ t) g ≡ cond (eq_by_cmp group_cmp g x.0) x.1 (clock_of t g)
    is g = unwrapped (eq_by_cmp group_cmp g x.0) x.1 (first_clock 0) (find group_cmp g t)

    head : is_sorted proc_cmp x.1.counts ≡ true
    head =
        subst (λ (c : Clock). is_sorted proc_cmp c.counts ≡ true)
        (unwrapped (eq_by_cmp group_cmp x.0 x.0) x.1 (first_clock 0) (find group_cmp x.0 t)
        ∙ ap (λ b. cond b x.1 (clock_of t x.0)) (tied_to group_cmp groups_total x.0 x.0 refl)) (two x.0)

    rest : CountsSorted t
    rest g = go (eq_by_cmp group_cmp g x.0) refl
      where
        go : (b : Bool) → eq_by_cmp group_cmp g x.0 ≡ b → is_sorted proc_cmp (clock_of t g).counts ≡ true
        go true e =
            subst (λ (c : Clock). is_sorted proc_cmp c.counts ≡ true)
            (sym (ap (clock_of t) (tells_apart group_exact g x.0 e) ∙ once.0)) refl
        go false e =
            subst (λ (c : Clock). is_sorted proc_cmp c.counts ≡ true)
            (unwrapped (eq_by_cmp group_cmp g x.0) x.1 (first_clock 0) (find group_cmp g t)
            ∙ ap (λ b. cond b x.1 (clock_of t g)) e) (two g)

pub bumped_sorted : (t : ClockList) (g : GroupNo) (p : Proc) → IsSorted t → IsSorted (with_bump t g p)
bumped_sorted t g p s = (put_sorted g _ t s.0, clocks_put g _ t s.1 (counts_put p (count_in t g p + 1) (clock_of t g).counts (s.1 g)))

pub entered_sorted : (t : ClockList) (g : GroupNo) (n : ℕ) → IsSorted t → IsSorted (entering t g n)
entered_sorted t g n s = (put_sorted g (first_clock n) t s.0, clocks_put g (first_clock n) t s.1 refl)

pub joined_sorted : (s t : ClockList) → IsSorted s → IsSorted t → IsSorted (join s t)
joined_sorted s t one two = (join_sorted s t one.0, times_join s t one.1 (sorted_once t two.0) two.1)

-- Where all is in order, what covers all that a time covers is at least it

module _ {K V : Type 0} (R : K → K → Ordering) (o : IsTotalOrder R) (exact : CmpEqualImpliesEq R) where
  above_head : (k : K) (es : List (K × V)) (e : K × V) → below_all R k es ≡ true → Contains es e → is_lt (R k e.0) ≡ true
  above_head k [] e s at = absurd (omega (arith, at.1))
  above_head k (x ∷ es) e s (zero, lt, is) = subst (λ (z : K × V). is_lt (R k z.0) ≡ true) is (and_parts _ _ s).0
  above_head k (x ∷ es) e s (suc n, lt, is) = above_head k es e (and_parts _ _ s).1 (n, omega arith, is)

  found_in : (es : List (K × V)) (e : K × V) → is_sorted R es ≡ true → Contains es e → find R e.0 es ≡ Some e.1
  found_in [] e s at = absurd (omega (arith, at.1))
  found_in (x ∷ es) e s (zero, lt, is) =
      ap (λ b. cond b (Some x.1) (find R e.0 es)) (tied_to R o e.0 x.0 (ap (λ (z : K × V). z.0) (sym is))) ∙ ap (λ (z : K × V). Some z.1) is
  found_in (x ∷ es) e s (suc n, lt, is) =
      go (eq_by_cmp R e.0 x.0) refl (found_in es e (and_parts _ _ s).1 (n, omega arith, is))
      (above_head x.0 es e (and_parts _ _ s).0 (n, omega arith, is))
    where
      go : (b : Bool) → eq_by_cmp R e.0 x.0 ≡ b → find R e.0 es ≡ Some e.1 → is_lt (R x.0 e.0) ≡ true →
          cond b (Some x.1) (find R e.0 es) ≡ Some e.1
      go true tie more low = absurd (false≢true (sym (ap is_lt (ap (R x.0) (tells_apart exact e.0 x.0 tie) ∙ tied_itself o x.0)) ∙ low))
      go false tie more low = more

all_pass : {X : Type 0} (test : X → Bool) (xs : List X) → ((x : X) → Contains xs x → test x ≡ true) → list_all test xs ≡ true
all_pass test [] each = refl
all_pass test (x ∷ xs) each =
    λ i. each x (0, omega arith, refl) i && all_pass test xs (λ y at. each y (suc at.0, omega (arith, at.1), at.2)) i

pub below_at_most : (s t : ClockList) → IsSorted s → Below s t → at_most s t ≡ true
below_at_most s t sorted up =
    all_pass (λ e. clock_at_most e.1 (clock_of t e.0))
    s (λ e at. entry e (ap (λ o. unwrap_or o (first_clock 0)) (found_in group_cmp groups_total group_exact s e sorted.0 at)))
  where
    counts : (e : GroupNo × Clock) → clock_of s e.0 ≡ e.1 → e.1.view ≡ view_of t e.0 → (c : Entry) → Contains e.1.counts c →
        nat_le c.1 (count_of (clock_of t e.0).counts c.0) ≡ true
    counts e is same c at =
        let ordered : is_sorted proc_cmp e.1.counts ≡ true = subst (λ (x : Clock). is_sorted proc_cmp x.counts ≡ true) is (sorted.1 e.0) in
        let own : count_of e.1.counts c.0 ≡ c.1 =
        ap (λ o. unwrap_or o 0) (found_in proc_cmp procs_total proc_exact e.1.counts c ordered at) in
        let has : count_in s e.0 c.0 ≡ c.1 = ap (λ (x : Clock). count_of x.counts c.0) is ∙ own in
        elim (up record { group = e.0; view = e.1.view; proc = c.0; count = c.1 }
        (inr (ap (λ (x : Clock). x.view) (sym is), omega (arith, has)))) [
          | inl above ↦ absurd (omega (arith, above, same))
          | inr level ↦ le-leb c.1 (count_of (clock_of t e.0).counts c.0) level.1
        ]

    entry : (e : GroupNo × Clock) → clock_of s e.0 ≡ e.1 → clock_at_most e.1 (clock_of t e.0) ≡ true
    entry e is = elim (cases_lt e.1.view (view_of t e.0)) [
      | inl lower ↦
          ap (λ b. b || ((e.1.view == view_of t e.0) && counts_at_most e.1.counts (clock_of t e.0).counts))
          (le-leb (suc e.1.view) (view_of t e.0) lower)
      | inr not_lower ↦
          let low : view_of s e.0 ≤ view_of t e.0 = below_view s t up e.0 in
          let here : view_of s e.0 ≡ e.1.view = ap (λ (x : Clock). x.view) is in
          let same : e.1.view ≡ view_of t e.0 = omega (arith, low, here, not_lower) in
          ap (λ b. nat_lt e.1.view (view_of t e.0) || b) (λ i. eq-eqb e.1.view (view_of t e.0) same i
          && all_pass (λ c. nat_le c.1 (count_of (clock_of t e.0).counts c.0)) e.1.counts (counts e is same) i)
          ∙ or_right (nat_lt e.1.view (view_of t e.0)) true refl
    ]
