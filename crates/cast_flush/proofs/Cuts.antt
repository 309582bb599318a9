-- The cut of reports is counts, and covers of each member as much as the greatest of the reports.
use Rattle.std.proofs.Common.{◌≡◌, ℕ, ◌≤◌, Bool, true, false, cond, List, [], ◌∷◌, length, Some, refl, sym, ap, subst, ◌∙◌, inl, inr, arith}
use Rattle.std.specs.Prelude.{nat_lt, nat_le, max, map, unwrap_or, ◌||◌}
use Rattle.std.specs.List.{list_all, fold}
use Rattle.std.specs.Ordering.{is_lt, eq_by_cmp}
use Rattle.std.specs.FinMap.Entries.{find, is_sorted, below_all}
use Rattle.std.proofs.lemmas.Bool.{cases_Bool, false≢true, and_parts, and_from, ltb-false, leb-true, le-leb}
use Rattle.cast_types.specs.declared.names.Proc.{Proc}
use Rattle.cast_types.specs.Names.{Entry, proc_eq, proc_cmp}
use Rattle.cast_types.specs.Sets.{is_among}
use Rattle.cast_types.specs.Counts.{count_of, is_counts}
use Rattle.cast_types.proofs.CountLists.{counts_from}
use Rattle.cast_types.proofs.Orders.{proc_total, proc_exact, same_proc, proc_itself, tie_self, tie_other}
use Rattle.cast_types.specs.Rising.{is_rising}
use Rattle.cast_flush.specs.Reports.{Reports, greatest_count, cut_from}
use Rattle.cast_flush.specs.Laws.{CutInWords}
use Rattle.cast_flush.proofs.Each.{all_filter, length_filter}

-- the cut is counts

-- who is below each of the members is below each whom the cut counts
below_cut : (p : Proc) (members : List Proc) (reports : Reports) → list_all (λ q. is_lt (proc_cmp p q)) members ≡ true →
    below_all proc_cmp p (cut_from members reports) ≡ true
below_cut p [] reports all = refl
below_cut p (q ∷ qs) reports all =
    let parts = and_parts (is_lt (proc_cmp p q)) (list_all (λ z. is_lt (proc_cmp p z)) qs) all in
    elim (nat_lt 0 (greatest_count reports q))
    as (λ b. below_all proc_cmp p (cond b ((q, greatest_count reports q) ∷ cut_from qs reports) (cut_from qs reports)) ≡ true) [
      | true ↦ and_from (is_lt (proc_cmp p q)) (below_all proc_cmp p (cut_from qs reports)) parts.0 (below_cut p qs reports parts.1)
      | false ↦ below_cut p qs reports parts.1
    ]

-- the cut of rising members rises
cut_rises : (members : List Proc) (reports : Reports) → is_rising proc_cmp members ≡ true →
    is_sorted proc_cmp (cut_from members reports) ≡ true
cut_rises [] reports rising = refl
cut_rises (q ∷ qs) reports rising =
    let parts = and_parts (list_all (λ z. is_lt (proc_cmp q z)) qs) (is_rising proc_cmp qs) rising in
    elim (nat_lt 0 (greatest_count reports q))
    as (λ b. is_sorted proc_cmp (cond b ((q, greatest_count reports q) ∷ cut_from qs reports) (cut_from qs reports)) ≡ true) [
      | true ↦
          and_from (below_all proc_cmp q (cut_from qs reports)) (is_sorted proc_cmp (cut_from qs reports)) (below_cut q qs reports parts.0)
          (cut_rises qs reports parts.1)
      | false ↦ cut_rises qs reports parts.1
    ]

-- a list has as many items as what a function gives of them
map_length : {A B : Type 0} (f : A → B) (xs : List A) → length (map f xs) ≡ length xs
map_length f [] = refl
map_length f (x ∷ xs) = omega (arith, map_length f xs)

-- the cut of at most 64 rising members is counts
pub cut_is_counts : (members : List Proc) (reports : Reports) → is_rising proc_cmp members ≡ true → length members ≤ 64 →
    is_counts (cut_from members reports) ≡ true
cut_is_counts members reports rising few =
    let entries : List Entry = map (λ p. (p, greatest_count reports p)) members in
    let kept : length (cut_from members reports) ≤ length entries = length_filter (λ e. nat_lt 0 e.1) entries in
    let all : length entries ≡ length members = map_length (λ p. (p, greatest_count reports p)) members in
    counts_from (cut_from members reports) (cut_rises members reports rising) (omega (arith, kept, all, few))
    (all_filter (λ e. nat_lt 0 e.1) entries)

-- what it covers

-- among counts that begin with that of another process, a process is looked for behind it
passed_over : (p q : Proc) (n : ℕ) (b : Bool) (c : List Entry) → eq_by_cmp proc_cmp p q ≡ false →
    count_of (cond b ((q, n) ∷ c) c) p ≡ count_of c p
passed_over p q n true c other = ap (λ t. unwrap_or (cond t (Some n) (find proc_cmp p c)) 0) other
passed_over p q n false c other = refl

-- among counts that begin with its own, it is found at once
found_first : (p q : Proc) (n : ℕ) (b : Bool) (c : List Entry) → eq_by_cmp proc_cmp p q ≡ true → b ≡ true →
    count_of (cond b ((q, n) ∷ c) c) p ≡ n
found_first p q n b c tie there =
    ap (λ t. count_of (cond t ((q, n) ∷ c) c) p) there
    ∙ ap (λ t. unwrap_or (cond t (Some n) (find proc_cmp p c)) 0) tie

-- of 0 and 0 either is 0
cond_alike : (b : Bool) (n : ℕ) → n ≡ 0 → cond b n 0 ≡ n
cond_alike true n e = refl
cond_alike false n e = sym e

-- of a member the cut covers the greatest count, and of nobody else any
pub count_cut : (members : List Proc) (reports : Reports) (p : Proc) →
    count_of (cut_from members reports) p ≡ cond (is_among proc_eq p members) (greatest_count reports p) 0
count_cut [] reports p = refl
count_cut (q ∷ qs) reports p = elim (cases_Bool (proc_eq p q)) [
  | inl here ↦
      let same : p ≡ q = same_proc p q here in
      let end : cond (proc_eq p q || is_among proc_eq p qs) (greatest_count reports p) 0 ≡ greatest_count reports p =
      ap (λ b. cond (b || is_among proc_eq p qs) (greatest_count reports p) 0) here in
      elim (cases_Bool (nat_lt 0 (greatest_count reports q))) [
        | inl some ↦
            found_first p q (greatest_count reports q) (nat_lt 0 (greatest_count reports q)) (cut_from qs reports)
            (tie_self proc_total p q same) some
            ∙ ap (greatest_count reports) (sym same)
            ∙ sym end
        | inr none ↦
            let low = ltb-false 0 (greatest_count reports q) none in
            let nothing : greatest_count reports q ≡ 0 = omega (arith, low) in
            ap (λ b. count_of (cond b ((q, greatest_count reports q) ∷ cut_from qs reports) (cut_from qs reports)) p) none
            ∙ count_cut qs reports p
            ∙ cond_alike (is_among proc_eq p qs) (greatest_count reports p) (ap (greatest_count reports) same ∙ nothing)
            ∙ sym end
      ]
  | inr other ↦
      passed_over p q (greatest_count reports q) (nat_lt 0 (greatest_count reports q)) (cut_from qs reports)
      (tie_other proc_exact p q (λ same. false≢true (sym other ∙ ap (λ z. proc_eq p z) (sym same) ∙ proc_itself p)))
      ∙ count_cut qs reports p
      ∙ sym (ap (λ b. cond (b || is_among proc_eq p qs) (greatest_count reports p) 0) other)
]

-- the greatest of counts is at most a number where each of them is
above_each : (p : Proc) (n a : ℕ) (reports : Reports) → fold (λ m r. max m (count_of r.1.counts p)) a reports ≤ n →
    (a ≤ n) × (list_all (λ r. nat_le (count_of r.1.counts p) n) reports ≡ true)
above_each p n a [] h = (h, refl)
above_each p n a (r ∷ rs) h =
    let rest = above_each p n (max a (count_of r.1.counts p)) rs h in
    let low : max a (count_of r.1.counts p) ≤ n = rest.0 in (
      omega (arith, low),
      and_from (nat_le (count_of r.1.counts p) n) (list_all (λ s. nat_le (count_of s.1.counts p) n) rs)
          (le-leb (count_of r.1.counts p) n (omega (arith, low))) rest.1,
    )

-- and the other way round
least_above : (p : Proc) (n a : ℕ) (reports : Reports) → a ≤ n → list_all (λ r. nat_le (count_of r.1.counts p) n) reports ≡ true →
    fold (λ m r. max m (count_of r.1.counts p)) a reports ≤ n
least_above p n a [] low all = low
least_above p n a (r ∷ rs) low all =
    let parts = and_parts (nat_le (count_of r.1.counts p) n) (list_all (λ s. nat_le (count_of s.1.counts p) n) rs) all in
    let here : count_of r.1.counts p ≤ n = leb-true (count_of r.1.counts p) n parts.0 in
    least_above p n (max a (count_of r.1.counts p)) rs (omega (arith, low, here)) parts.1

-- the cut says what the rule says in words
pub cut_in_words : CutInWords
cut_in_words members reports p = (
  λ among n.
      let is : count_of (cut_from members reports) p ≡ greatest_count reports p =
      count_cut members reports p ∙ ap (λ b. cond b (greatest_count reports p) 0) among in (
        λ low. (above_each p n 0 reports (subst (λ x. x ≤ n) is low)).1,
        λ all. subst (λ x. x ≤ n) (sym is) (least_above p n 0 reports (omega arith) all),
      ),
  λ lacks. count_cut members reports p ∙ ap (λ b. cond b (greatest_count reports p) 0) lacks,
)
