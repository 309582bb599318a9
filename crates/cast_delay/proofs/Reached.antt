-- How far processes came: what is counted of it stays so, whatever happens.
use Rattle.std.proofs.Common.{◌≡◌, ◌⊎◌, ℕ, ◌<◌, ◌≤◌, Bool, true, false, cond, not, ◌&&◌, List, [], ◌∷◌, zero, suc, map, filter, Contains}
use Rattle.std.proofs.Common.{Option, Some, unwrap_or, refl, sym, ap, subst, ◌∙◌, inl, inr, arith, Ordering, Less, Equal, Greater}
use Rattle.std.specs.Prelude.{max, ◌==◌}
use Rattle.std.specs.Ordering.{is_eq, eq_by_cmp}
use Rattle.std.specs.FinMap.Entries.{find, put, by_order, find-put}
use Rattle.std.proofs.lemmas.Bool.{cases_Bool, cases_lt, and_parts, and_from, eqb-true, eq-eqb}
use Rattle.std.proofs.lemmas.Map.Lookups.{CmpEqualImpliesEq}
use Rattle.cast_types.specs.declared.names.GroupNo.{GroupNo}
use Rattle.cast_types.specs.declared.names.Proc.{Proc}
use Rattle.cast_types.specs.declared.names.Uid.{Uid}
use Rattle.cast_types.specs.declared.source.Source.{Source}
use Rattle.cast_types.specs.Sources.{source, source_cmp, is_ended, but_ended}
use Rattle.cast_types.specs.Names.{Entry, group_eq, uid_in}
use Rattle.cast_types.proofs.Contains.{contains_here, contains_later}
use Rattle.cast_types.proofs.Orders.{same_group, group_itself, tie_self, tie_same}
use Rattle.cast_types.proofs.Sources.{source_total, source_exact}
use Rattle.cast_clock.proofs.Entries.{option_cases}
use Rattle.cast_ready.specs.declared.gate.Gate.{Gate}
use Rattle.cast_ready.specs.Ready.{Process, has_delivered}
use Rattle.cast_ready.specs.DeliveredCounts.{DeliveredCounts, count_at, raised_at, counts_in}
use Rattle.cast_delay.specs.Fits.{HasNotEnded, Reaches}
use Rattle.cast_delay.proofs.Finds.{kept_parts}
use Rattle.cast_delay.proofs.RowLemmas.{count_kept, not_ended}

-- Lists

-- an item of a longer list is its first or one of the rest
first_or_later : {A : Type 0} (x y : A) (xs : List A) → Contains (x ∷ xs) y → (x ≡ y) ⊎ Contains xs y
first_or_later x y xs (zero, lt, at) = inl at
first_or_later x y xs (suc k, lt, at) = inr (k, omega (arith, lt), at)

-- what passes is kept
kept_back : {A : Type 0} (keep : A → Bool) (xs : List A) (x : A) → Contains xs x → keep x ≡ true → Contains (filter keep xs) x
kept_back keep [] x has passes = absurd (omega (arith, has.1))
kept_back keep (y ∷ ys) x has passes = elim (first_or_later y x ys has) [
  | inl here ↦
      subst (λ b. Contains (cond b (y ∷ filter keep ys) (filter keep ys)) x) (sym (ap keep here ∙ passes))
      (subst (λ z. Contains (y ∷ filter keep ys) z) here (contains_here y (filter keep ys)))
  | inr later ↦
      let rest = kept_back keep ys x later passes in
      elim (keep y)
      as (λ b. Contains (cond b (y ∷ filter keep ys) (filter keep ys)) x) [ true ↦ contains_later x y (filter keep ys) rest | false ↦ rest ]
]

mapped_back : {A B : Type 0} (f : A → B) (xs : List A) (x : A) → Contains xs x → Contains (map f xs) (f x)
mapped_back f [] x has = absurd (omega (arith, has.1))
mapped_back f (y ∷ ys) x has = elim (first_or_later y x ys has) [
  | inl here ↦ subst (λ z. Contains (f y ∷ map f ys) (f z)) here (contains_here (f y) (map f ys))
  | inr later ↦ contains_later (f x) (f y) (map f ys) (mapped_back f ys x later)
]

pub mapped_parts : {A B : Type 0} (f : A → B) (xs : List A) (z : B) → Contains (map f xs) z → (x : A) × (Contains xs x × (f x ≡ z))
mapped_parts f [] z has = absurd (omega (arith, has.1))
mapped_parts f (y ∷ ys) z has = elim (first_or_later (f y) z (map f ys) has) [
  | inl here ↦ (y, (contains_here y ys, here))
  | inr later ↦ let rest = mapped_parts f ys z later in (rest.0, (contains_later rest.0 y ys rest.1.0, rest.1.1))
]

-- what is found stands in the list under its key
pub found_there : {K V : Type 0} {R : K → K → Ordering} → CmpEqualImpliesEq R → (q : K) (v : V) (es : List (K × V)) → find R q es ≡ Some v →
    Contains es (q, v)
found_there exact q v [] is = cc
found_there {R = R} exact q v (e ∷ es) is =
    elim (R q e.0) as (λ r. R q e.0 ≡ r → cond (is_eq r) (Some e.1) (find R q es) ≡ Some v → Contains (e ∷ es) (q, v)) [
      | Less ↦ λ _ later. contains_later (q, v) e es (found_there exact q v es later)
      | Equal ↦ λ tie here.
          subst (λ x. Contains (e ∷ es) x) (λ i. (sym (exact q e.0 tie) i, ap (λ (o : Option _). unwrap_or o v) here i))
          (contains_here e es)
      | Greater ↦ λ _ later. contains_later (q, v) e es (found_there exact q v es later)
    ] refl is

-- after a put an entry is the one that was put, or one of the others
put_parts : {K V : Type 0} {R : K → K → Ordering} → CmpEqualImpliesEq R → (k : K) (v : V) (es : List (K × V)) (x : K × V) →
    Contains (put R k v es) x → ((k, v) ≡ x) ⊎ Contains es x
put_parts exact k v [] x has = first_or_later (k, v) x [] has
put_parts {R = R} exact k v (e ∷ es) x has =
    elim (R k e.0) as (λ r. R k e.0 ≡ r → Contains (by_order r ((k, v) ∷ e ∷ es) ((e.0, v) ∷ es) (e ∷ put R k v es)) x →
    ((k, v) ≡ x) ⊎ Contains (e ∷ es) x) [
      | Less ↦ λ _ in_it. first_or_later (k, v) x (e ∷ es) in_it
      | Equal ↦ λ tie in_it. elim (first_or_later (e.0, v) x es in_it) [
        | inl here ↦ inl ((λ i. (exact k e.0 tie i, v)) ∙ here)
        | inr later ↦ inr (contains_later x e es later)
      ]
      | Greater ↦ λ _ in_it. elim (first_or_later e x (put R k v es) in_it) [
        | inl here ↦ inr (subst (λ z. Contains (e ∷ es) z) here (contains_here e es))
        | inr later ↦ elim (put_parts exact k v es x later) [ inl own ↦ inl own | inr other ↦ inr (contains_later x e es other) ]
      ]
    ] refl has

-- Counts

-- a count from 1 on stands in the list
counted_there : (counts : DeliveredCounts) (s : Source) → 0 < count_at counts s → Contains counts (s, count_at counts s)
counted_there counts s some = elim (option_cases (find source_cmp s counts)) [
  | inl none ↦ absurd (omega (arith, some, ap (λ (o : Option ℕ). unwrap_or o 0) none))
  | inr (n, is) ↦
      subst (λ m. Contains counts (s, m)) (sym (ap (λ (o : Option ℕ). unwrap_or o 0) is)) (found_there source_exact s n counts is)
]

pub raised_count : (counts : DeliveredCounts) (s t : Source) (count : ℕ) →
    count_at (raised_at s count counts) t ≡ cond (eq_by_cmp source_cmp t s) (max (count_at counts s) count) (count_at counts t)
raised_count counts s t count =
    ap (λ (o : Option ℕ). unwrap_or o 0) (find-put source_cmp source_total t s (max (count_at counts s) count) counts)
    ∙ elim (eq_by_cmp source_cmp t s) as (λ b. unwrap_or (cond b (Some (max (count_at counts s) count)) (find source_cmp t counts)) 0
    ≡ cond b (max (count_at counts s) count) (count_at counts t)) [ true ↦ refl | false ↦ refl ]

-- no count falls
pub raised_least : (counts : DeliveredCounts) (s t : Source) (count : ℕ) → count_at counts t ≤ count_at (raised_at s count counts) t
raised_least counts s t count = elim (cases_Bool (eq_by_cmp source_cmp t s)) [
  | inl tie ↦
      let is = raised_count counts s t count ∙ ap (λ b. cond b (max (count_at counts s) count) (count_at counts t)) tie in
      let same = ap (count_at counts) (tie_same source_exact t s tie) in
      omega (arith, is, same)
  | inr other ↦
      let is = raised_count counts s t count ∙ ap (λ b. cond b (max (count_at counts s) count) (count_at counts t)) other in
      omega (arith, is)
]

-- and its own is as great as the other
pub raised_own : (counts : DeliveredCounts) (s : Source) (count : ℕ) → count ≤ count_at (raised_at s count counts) s
raised_own counts s count =
    let is =
    raised_count counts s s count ∙ ap (λ b. cond b (max (count_at counts s) count) (count_at counts s)) (tie_self source_total s s refl) in
    omega (arith, is)

-- Processes

module _ (gate : GroupNo → Gate) (processes : Proc → Process) (reached : DeliveredCounts) (r : Reaches gate processes reached) where
  -- in later views of groups
  pub reaches_later : (later : GroupNo → Gate) → ((g : GroupNo) → (gate g).number ≤ (later g).number) → Reaches later processes reached
  reaches_later later rises = record {
    most = λ p u stands has. r.most p u (let rise = rises u.group in omega (arith, rise, stands)) has;
    each = r.each;
  }

  -- where earlier views are forgotten
  pub reaches_ended : (g : GroupNo) (number : ℕ) → number ≤ (gate g).number → Reaches gate processes (but_ended g number reached)
  reaches_ended g number ends = record {
    most = λ p u stands has. subst (λ n. u.count ≤ n)
        (sym (count_kept g number (source u.group u.view u.proc) (not_ended gate g number ends u stands) reached)) (r.most p u stands has);
    each = λ x in_it. r.each x (kept_parts (λ e. not (is_ended g number e.0)) reached x in_it).0;
  }

  module _ (others : Proc → Process)
      (still : (p : Proc) (u : Uid) → has_delivered (processes p) u ≡ true → has_delivered (others p) u ≡ true) where
    each_still : (x : Source × ℕ) → Contains reached x →
        (p : Proc) × (has_delivered (others p) (uid_in x.0.group x.0.view (x.0.process, x.1)) ≡ true)
    each_still x in_it = let (p, has) = r.each x in_it in (p, still p (uid_in x.0.group x.0.view (x.0.process, x.1)) has)

    -- where processes have delivered the same
    pub reaches_same : ((p : Proc) (u : Uid) → has_delivered (others p) u ≡ true → has_delivered (processes p) u ≡ true) →
        Reaches gate others reached
    reaches_same before = record {
      most = λ p u stands has. r.most p u stands (before p u has);
      each = each_still;
    }

    -- where one has delivered a message more
    pub reaches_raised : (id : Uid) → 0 < id.count → (q : Proc) → has_delivered (others q) id ≡ true →
        ((p : Proc) (u : Uid) → has_delivered (others p) u ≡ true → (has_delivered (processes p) u ≡ true) ⊎ (u ≡ id)) →
        Reaches gate others (raised_at (source id.group id.view id.proc) id.count reached)
    reaches_raised id from_one q own before = record { most = most_now; each = each_now }
      where
        most_now : (p : Proc) (u : Uid) → HasNotEnded gate u.group u.view → has_delivered (others p) u ≡ true →
            u.count ≤ count_at (raised_at (source id.group id.view id.proc) id.count reached) (source u.group u.view u.proc)
        most_now p u stands has = elim (before p u has) [
          | inl old ↦
              omega (
                arith,
                r.most p u stands old,
                raised_least reached (source id.group id.view id.proc) (source u.group u.view u.proc) id.count,
              )
          | inr this ↦
              subst (λ w. w.count ≤ count_at (raised_at (source id.group id.view id.proc) id.count reached) (source w.group w.view w.proc))
              (sym this) (raised_own reached (source id.group id.view id.proc) id.count)
        ]

        put_one : (p : Proc) × (has_delivered (others p)
            (uid_in id.group id.view (id.proc, max (count_at reached (source id.group id.view id.proc)) id.count)) ≡ true)
        put_one = elim (cases_lt (count_at reached (source id.group id.view id.proc)) id.count) [
          | inl less ↦
              let is : id.count ≡ max (count_at reached (source id.group id.view id.proc)) id.count = omega (arith, less) in
              (q, subst (λ n. has_delivered (others q) (uid_in id.group id.view (id.proc, n)) ≡ true) is own)
          | inr more ↦
              let is : count_at reached (source id.group id.view id.proc)
              ≡ max (count_at reached (source id.group id.view id.proc)) id.count = omega (arith, more) in
              let there = counted_there reached (source id.group id.view id.proc) (omega (arith, from_one, more)) in
              let (p, has) = each_still (source id.group id.view id.proc, count_at reached (source id.group id.view id.proc)) there in
              (p, subst (λ n. has_delivered (others p) (uid_in id.group id.view (id.proc, n)) ≡ true) is has)
        ]

        each_now : (x : Source × ℕ) → Contains (raised_at (source id.group id.view id.proc) id.count reached) x →
            (p : Proc) × (has_delivered (others p) (uid_in x.0.group x.0.view (x.0.process, x.1)) ≡ true)
        each_now x in_it =
            elim (put_parts source_exact (source id.group id.view id.proc)
            (max (count_at reached (source id.group id.view id.proc)) id.count) reached x in_it) [
              | inl this ↦
                  subst (λ (y : Source × ℕ). (p : Proc) × (has_delivered (others p) (uid_in y.0.group y.0.view (y.0.process, y.1)) ≡ true))
                  this put_one
              | inr other ↦ each_still x other
            ]

  -- the counts of a view that has not ended
  pub reached_most : (g : GroupNo) (view : ℕ) → HasNotEnded gate g view → (p : Proc) (e : Entry) → 0 < e.1 →
      has_delivered (processes p) (uid_in g view e) ≡ true → (n : ℕ) × Contains (counts_in g view reached) (e.0, n) × (e.1 ≤ n)
  reached_most g view stands p e from_one has =
      let n = count_at reached (source g view e.0) in
      let most : e.1 ≤ n = r.most p (uid_in g view e) stands has in
      let there = counted_there reached (source g view e.0) (omega (arith, most, from_one)) in
      let test : Source × ℕ → Bool = λ x. group_eq x.0.group g && (x.0.view == view) in
      let kept =
      kept_back test reached (source g view e.0, n)
      there (and_from (group_eq g g) (view == view) (group_itself g) (eq-eqb view view refl)) in (
        n,
        mapped_back (λ x. (x.0.process, x.1)) (filter test reached) (source g view e.0, n) kept,
        most,
      )

  pub reached_each : (g : GroupNo) (view : ℕ) (e : Entry) → Contains (counts_in g view reached) e →
      (p : Proc) × (has_delivered (processes p) (uid_in g view e) ≡ true)
  reached_each g view e in_it =
      let test : Source × ℕ → Bool = λ x. group_eq x.0.group g && (x.0.view == view) in
      let (x, (kept, is)) = mapped_parts (λ (y : Source × ℕ). (y.0.process, y.1)) (filter test reached) e in_it in
      let parts = kept_parts test reached x kept in
      let tests = and_parts (group_eq x.0.group g) (x.0.view == view) parts.1 in
      let (p, has) = r.each x parts.0 in
      let same : uid_in x.0.group x.0.view (x.0.process, x.1) ≡ uid_in g view e =
      λ i. uid_in (same_group x.0.group g tests.0 i) (eqb-true x.0.view view tests.1 i) (is i) in
      (p, subst (λ u. has_delivered (processes p) u ≡ true) same has)
