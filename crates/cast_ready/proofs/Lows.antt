-- What of a row a walk over low clocks leaves out, and standings that rise.
use Rattle.std.proofs.Common.{◌≡◌, ℕ, suc, ◌-◌, ◌<◌, ◌≤◌, true, false, cond, ◌&&◌, List, [], ◌∷◌, length, get_or}
use Rattle.std.proofs.Common.{Contains, Option, Some, None, unwrap_or, Less, Equal, Greater, refl, sym, ap, subst, ◌∙◌, arith}
use Rattle.std.specs.Prelude.{nat_le, nat_lt, ◌==◌, ◌||◌}
use Rattle.std.specs.Ordering.{is_lt, is_eq}
use Rattle.std.specs.FinMap.Entries.{find, is_sorted, below_all}
use Rattle.std.proofs.lemmas.Bool.{or_right}
use Rattle.cast_types.specs.declared.names.GroupNo.{GroupNo}
use Rattle.cast_types.specs.declared.names.Uid.{Uid}
use Rattle.cast_types.specs.declared.clock.Clock.{Clock}
use Rattle.cast_types.specs.declared.names.Standing.{Standing}
use Rattle.cast_types.specs.declared.names.Standing.TheVariants.{Member}
use Rattle.cast_types.specs.Names.{Entry, group_cmp, uid_eq, uid_in}
use Rattle.cast_types.specs.Stamps.{ClockList}
use Rattle.cast_types.proofs.Orders.{group_total, group_exact}
use Rattle.cast_types.proofs.Contains.{contains_here, contains_later, all_from}
use Rattle.cast_types.proofs.Rising.{less_is}
use Rattle.cast_clock.specs.Times.{first_clock, clock_of}
use Rattle.cast_clock.proofs.Entries.{and_both, and_true}
use Rattle.cast_clock.proofs.Valid.{le_as}
use Rattle.cast_ready.specs.declared.row.Row.{Row}
use Rattle.cast_ready.specs.Ready.{is_member}
use Rattle.cast_ready.specs.Rows.{standing_in, done_in, needed_count, has_past, row_allows, IsClockIn, HasCounted, AreLow}

-- ---- standings that rise
-- up to a place each standing is of a greater group than the one before
abbrev pub Rises : List (GroupNo × Standing) → ℕ → Type 0
Rises es n = (j : ℕ) (d : GroupNo × Standing) → suc j < n → suc j < length es → group_cmp (get_or es j d).0 (get_or es (suc j) d).0 ≡ Less

below_through : (k e : GroupNo) (es : List (GroupNo × Standing)) → group_cmp k e ≡ Less → below_all group_cmp e es ≡ true →
    below_all group_cmp k es ≡ true
below_through k e [] less all = refl
below_through k e (x ∷ xs) less all =
    let parts = and_both (is_lt (group_cmp e x.0)) (below_all group_cmp e xs) all in
    and_true (is_lt (group_cmp k x.0)) (below_all group_cmp k xs)
    (ap is_lt (group_total.trans k e x.0 less (less_is (group_cmp e x.0) parts.0))) (below_through k e xs less parts.1)

sorted_from : (es : List (GroupNo × Standing)) → ((j : ℕ) (d : GroupNo × Standing) → suc j < length es →
    group_cmp (get_or es j d).0 (get_or es (suc j) d).0 ≡ Less) → is_sorted group_cmp es ≡ true
sorted_from [] rises = refl
sorted_from (e ∷ []) rises = refl
sorted_from (e ∷ x ∷ xs) rises =
    let rest : is_sorted group_cmp (x ∷ xs) ≡ true = sorted_from (x ∷ xs) (λ j d lt. rises (suc j) d (omega (arith, lt))) in
    let first : group_cmp e.0 x.0 ≡ Less = rises 0 e (omega arith) in
    let behind = and_both (below_all group_cmp x.0 xs) (is_sorted group_cmp xs) rest in
    and_true (below_all group_cmp e.0 (x ∷ xs)) (is_sorted group_cmp (x ∷ xs))
    (and_true (is_lt (group_cmp e.0 x.0)) (below_all group_cmp e.0 xs) (ap is_lt first) (below_through e.0 x.0 xs first behind.0)) rest

pub rises_sorted : (es : List (GroupNo × Standing)) (n : ℕ) → length es ≤ n → Rises es n → is_sorted group_cmp es ≡ true
rises_sorted es n all rises = sorted_from es (λ j d lt. rises j d (omega (arith, lt, all)) lt)

-- ---- what is counted by a low clock is delivered
pub nothing_in : {A : Type 0} (x : A) → Contains [] x → ⊥
nothing_in x there = let none = there.1 in omega arith

needed_at_most : (id : Uid) (g : GroupNo) (view : ℕ) (e : Entry) → needed_count id g view e ≤ e.1
needed_at_most id g view e =
    elim (uid_eq (uid_in g view e) id) as (λ b. cond b (e.1 - 1) e.1 ≤ e.1) [ true ↦ omega arith | false ↦ omega arith ]

counted_past : (row : Row) (id : Uid) (g : GroupNo) (clock : Clock) → HasCounted row g clock →
    has_past row id g clock.view clock.counts ≡ true
counted_past row id g clock counted =
    all_from (λ e. nat_le (needed_count id g clock.view e) (done_in row g clock.view e.0)) clock.counts (λ e there.
    let few : needed_count id g clock.view e ≤ e.1 = needed_at_most id g clock.view e in
    let enough : e.1 ≤ done_in row g clock.view e.0 = counted e there in
    le_as (needed_count id g clock.view e) (done_in row g clock.view e.0) (omega (arith, few, enough)))

pub counted_allows : (row : Row) (number : ℕ) (id : Uid) (times : ClockList) (g : GroupNo) (clock : Clock) → clock_of times g ≡ clock →
    (clock.view == number) ≡ true → HasCounted row g clock → row_allows row number id times g Member ≡ true
counted_allows row number id times g clock is same counted =
    ap (λ (k : Clock). nat_lt k.view number || ((k.view == number) && has_past row id g k.view k.counts)) is
    ∙ ap (λ b. nat_lt clock.view number || b)
    (and_true (clock.view == number) (has_past row id g clock.view clock.counts) same (counted_past row id g clock counted))
    ∙ or_right (nat_lt clock.view number) true refl

found_among : (es : ClockList) (g : GroupNo) (k : Clock) → find group_cmp g es ≡ Some k → Contains es (g, k)
found_among [] g k is = cc
found_among (e ∷ es) g k is =
    elim (group_cmp g e.0) as (λ r. group_cmp g e.0 ≡ r → cond (is_eq r) (Some e.1) (find group_cmp g es) ≡ Some k →
    Contains (e ∷ es) (g, k)) [
      | Less ↦ λ _ there. contains_later (g, k) e es (found_among es g k there)
      | Equal ↦ λ tie here.
          subst (λ x. Contains (e ∷ es) x) (λ i. (sym (group_exact g e.0 tie) i, ap (λ (o : Option Clock). unwrap_or o k) here i))
          (contains_here e es)
      | Greater ↦ λ _ there. contains_later (g, k) e es (found_among es g k there)
    ] refl is

-- a group's clock in a stamp, or that which stands for an absent one
pub low_counted : (row : Row) (times : ClockList) (low : List GroupNo) (g : GroupNo) (clock : Option Clock) → AreLow row times low →
    IsClockIn times g clock → Contains low g → is_member (standing_in row g) ≡ true → HasCounted row g (unwrap_or clock (first_clock 0))
low_counted row times low g None are is listed member = λ e there. absurd (nothing_in e there)
low_counted row times low g (Some k) are is listed member = (are (g, k) (found_among times g k (sym is)) listed member).delivered
