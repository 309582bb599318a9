-- Sets of counts as runs: what a further count changes, and that the one after the run is not in the set.
use Rattle.std.proofs.Common.{◌≡◌, ℕ, suc, ◌+◌, ◌<◌, ◌≤◌, Bool, true, false, ◌&&◌, ◌||◌, List, [], ◌∷◌, drop}
use Rattle.std.proofs.Common.{Some, unwrap_or, Less, Equal, Greater, refl, sym, ap, subst, ◌∙◌, inl, inr, arith}
use Rattle.std.specs.Prelude.{◌==◌, nat_lt, nat_le, if◌then◌else◌}
use Rattle.std.specs.Ordering.{nat_cmp}
use Rattle.std.specs.Cmp.{nat_cmp_is}
use Rattle.std.specs.List.{list_any, slice_get}
use Rattle.std.proofs.Math.Bool.{or_assoc, or_comm}
use Rattle.std.proofs.lemmas.Bool.{and_parts, and_from, or_cases, or_left, or_right, cases_lt, cases_eq, lt-ltb, ltb-true}
use Rattle.std.proofs.lemmas.Bool.{le-leb, leb-true, leb-false, lt-leb, eq-eqb, eqb-true, eqb-false, false_from_ne_true}
use Rattle.cast_types.specs.Sets.{with_item, at_order}
use Rattle.cast_stable.specs.Runs.{Run, rises_above, is_run, contains, run_after, absorb, insert_count}
use Rattle.cast_types.proofs.Bools.{same_bools}

pub eqb_sym : (m k : ℕ) → (m == k) ≡ (k == m)
eqb_sym m k = same_bools (m == k) (k == m) (λ h. eq-eqb k m (sym (eqb-true m k h))) (λ h. eq-eqb m k (sym (eqb-true k m h)))

pub and_false : (b : Bool) → (b && false) ≡ false
and_false true = refl
and_false false = refl

or_swap : (a b c : Bool) → ((a || b) || c) ≡ ((a || c) || b)
or_swap true b c = refl
or_swap false b c = or_comm b c

or_again : (a b : Bool) → (a || b) ≡ ((a || b) || a)
or_again true b = refl
or_again false b = sym (or_comm b false)

-- what rises from above a count has nothing up to that
none_below : (n k : ℕ) (ms : List ℕ) → rises_above n ms ≡ true → k ≤ n → list_any (λ x. x == k) ms ≡ false
none_below n k [] h le = refl
none_below n k (m ∷ ms) h le =
    let parts = and_parts (nat_lt n m) (rises_above m ms) h in
    let lt : n < m = ltb-true n m parts.0 in
    let here : (m == k) ≡ false = false_from_ne_true (m == k) (λ e. let same = eqb-true m k e in omega (arith, same, lt, le)) in
    let later = none_below m k ms parts.1 (omega (arith, lt, le)) in
    λ i. here i || later i

-- the count after the run is not in the set
pub next_apart : (r : Run) → is_run r ≡ true → contains r (r.upto + 1) ≡ false
next_apart r h =
    let beyond : nat_le (r.upto + 1) r.upto ≡ false =
    false_from_ne_true (nat_le (r.upto + 1) r.upto) (λ e. let le = leb-true (r.upto + 1) r.upto e in omega (arith, le)) in
    let outside : (nat_lt 0 (r.upto + 1) && nat_le (r.upto + 1) r.upto) ≡ false =
    ap (λ b. nat_lt 0 (r.upto + 1) && b) beyond ∙ and_false (nat_lt 0 (r.upto + 1)) in
    let apart = none_below (r.upto + 1) (r.upto + 1) r.above h (omega arith) in
    λ i. outside i || apart i

-- a count joins the run, or none does
abbrev going_on : ℕ → ℕ → List ℕ → Bool → ℕ × ℕ
going_on n m ms b = if b then ((run_after m ms).0, suc (run_after m ms).1) else (n, 0)

abbrev absorbing : ℕ → ℕ → List ℕ → Bool → Run
absorbing n m ms b = record { upto = (going_on n m ms b).0; above = drop (going_on n m ms b).1 (m ∷ ms) }

-- where the first count does not go on with the run, none does
pub absorbed_apart : (n m : ℕ) (ms : List ℕ) → slice_get ms 0 ≡ Some m → (m ≡ n + 1 → ⊥) → absorb n ms ≡ record { upto = n; above = ms }
absorbed_apart n m [] first apart = refl
absorbed_apart n m (x ∷ ms) first apart =
    ap (λ b. absorbing n x ms b) (false_from_ne_true (x == n + 1) (λ e. apart (sym (ap (λ o. unwrap_or o m) first) ∙ eqb-true x (n + 1) e)))

-- what joins the run leaves a run
pub absorbed_is : (n : ℕ) (ms : List ℕ) → rises_above n ms ≡ true → is_run (absorb n ms) ≡ true
absorbed_is n [] h = refl
absorbed_is n (m ∷ ms) h =
    let parts = and_parts (nat_lt n m) (rises_above m ms) h in
    let lt : n < m = ltb-true n m parts.0 in
    elim (m == n + 1) as (λ b. (m == n + 1) ≡ b → is_run (absorbing n m ms b) ≡ true) [
      | true ↦ λ _. absorbed_is m ms parts.1
      | false ↦ λ other.
          let apart = eqb-false m (n + 1) other in
          and_from (nat_lt (n + 1) m) (rises_above m ms) (lt-ltb (n + 1) m (omega (arith, lt, apart))) parts.1
    ] refl

with_item_rises : (n m : ℕ) (ms : List ℕ) → n < m → rises_above n ms ≡ true → rises_above n (with_item nat_cmp m ms) ≡ true
with_item_rises n m [] lt h = and_from (nat_lt n m) true (lt-ltb n m lt) refl
with_item_rises n m (x ∷ ms) lt h =
    let parts = and_parts (nat_lt n x) (rises_above x ms) h in
    elim (cases_lt m x) [
      | inl below ↦
          subst (λ o. rises_above n (at_order o (m ∷ x ∷ ms) (x ∷ ms) (x ∷ with_item nat_cmp m ms)) ≡ true) (nat_cmp_is m x Less below)
          (and_from (nat_lt n m) (nat_lt m x && rises_above x ms) (lt-ltb n m lt)
          (and_from (nat_lt m x) (rises_above x ms) (lt-ltb m x below) parts.1))
      | inr above ↦ elim (cases_eq m x) [
        | inl same ↦
            subst (λ o. rises_above n (at_order o (m ∷ x ∷ ms) (x ∷ ms) (x ∷ with_item nat_cmp m ms)) ≡ true) (nat_cmp_is m x Equal same) h
        | inr other ↦
            let over : x < m = omega (arith, above, other) in
            subst (λ o. rises_above n (at_order o (m ∷ x ∷ ms) (x ∷ ms) (x ∷ with_item nat_cmp m ms)) ≡ true) (nat_cmp_is m x Greater over)
            (and_from (nat_lt n x) (rises_above x (with_item nat_cmp m ms)) parts.0 (with_item_rises x m ms over parts.1))
      ]
    ]

-- a further count leaves a run
pub inserted_is : (r : Run) (m : ℕ) → is_run r ≡ true → is_run (insert_count r m) ≡ true
inserted_is r m h =
    elim (nat_le m r.upto) as (λ b. nat_le m r.upto ≡ b →
    is_run (if b then r else if m == r.upto + 1 then absorb m r.above else record r { above = with_item nat_cmp m r.above }) ≡ true) [
      | true ↦ λ _. h
      | false ↦ λ big.
          elim (m == r.upto + 1) as (λ b. (m == r.upto + 1) ≡ b →
          is_run (if b then absorb m r.above else record r { above = with_item nat_cmp m r.above }) ≡ true) [
            | true ↦ λ same. absorbed_is m r.above (subst (λ k. rises_above k r.above ≡ true) (sym (eqb-true m (r.upto + 1) same)) h)
            | false ↦ λ other.
                let apart = eqb-false m (r.upto + 1) other in
                let over = leb-false m r.upto big in
                with_item_rises (r.upto + 1) m r.above (omega (arith, apart, over)) h
          ] refl
    ] refl

-- one count more at the end of a run
range_grows : (n k : ℕ) → (nat_lt 0 k && nat_le k (n + 1)) ≡ ((nat_lt 0 k && nat_le k n) || (n + 1 == k))
range_grows n k = same_bools (nat_lt 0 k && nat_le k (n + 1)) ((nat_lt 0 k && nat_le k n) || (n + 1 == k)) there back
  where
    there : (nat_lt 0 k && nat_le k (n + 1)) ≡ true → ((nat_lt 0 k && nat_le k n) || (n + 1 == k)) ≡ true
    there h =
        let parts = and_parts (nat_lt 0 k) (nat_le k (n + 1)) h in
        let le = leb-true k (n + 1) parts.1 in
        elim (cases_eq (n + 1) k) [
          | inl same ↦ or_right (nat_lt 0 k && nat_le k n) (n + 1 == k) (eq-eqb (n + 1) k same)
          | inr other ↦
              or_left (nat_lt 0 k && nat_le k n) (n + 1 == k)
              (and_from (nat_lt 0 k) (nat_le k n) parts.0 (le-leb k n (omega (arith, le, other))))
        ]

    back : ((nat_lt 0 k && nat_le k n) || (n + 1 == k)) ≡ true → (nat_lt 0 k && nat_le k (n + 1)) ≡ true
    back h = elim (or_cases (nat_lt 0 k && nat_le k n) (n + 1 == k) h) [
      | inl before ↦
          let parts = and_parts (nat_lt 0 k) (nat_le k n) before in
          let le = leb-true k n parts.1 in
          and_from (nat_lt 0 k) (nat_le k (n + 1)) parts.0 (le-leb k (n + 1) (omega (arith, le)))
      | inr last ↦
          let same = eqb-true (n + 1) k last in
          and_from (nat_lt 0 k) (nat_le k (n + 1)) (lt-ltb 0 k (omega (arith, same))) (le-leb k (n + 1) (omega (arith, same)))
    ]

-- what joins the run is in the set as before
contains_absorbed : (n k : ℕ) (ms : List ℕ) → contains (absorb n ms) k ≡ ((nat_lt 0 k && nat_le k n) || list_any (λ x. x == k) ms)
contains_absorbed n k [] = refl
contains_absorbed n k (m ∷ ms) =
    elim (m == n + 1)
    as (λ b. (m == n + 1) ≡ b → contains (absorbing n m ms b) k ≡ ((nat_lt 0 k && nat_le k n) || ((m == k) || list_any (λ x. x == k) ms))) [
      | true ↦ λ next.
          let same = eqb-true m (n + 1) next in
          contains_absorbed m k ms
          ∙ ap (λ j. (nat_lt 0 k && nat_le k j) || list_any (λ x. x == k) ms) same
          ∙ ap (λ b. b || list_any (λ x. x == k) ms) (range_grows n k)
          ∙ ap (λ j. ((nat_lt 0 k && nat_le k n) || (j == k)) || list_any (λ x. x == k) ms) (sym same)
          ∙ or_assoc (nat_lt 0 k && nat_le k n) (m == k) (list_any (λ x. x == k) ms)
      | false ↦ λ _. refl
    ] refl

with_item_any : (m k : ℕ) (ms : List ℕ) → list_any (λ x. x == k) (with_item nat_cmp m ms) ≡ (list_any (λ x. x == k) ms || (k == m))
with_item_any m k [] = or_comm (m == k) false ∙ eqb_sym m k
with_item_any m k (x ∷ ms) =
    elim (cases_lt m x) [
      | inl below ↦
          ap (λ o. list_any (λ y. y == k) (at_order o (m ∷ x ∷ ms) (x ∷ ms) (x ∷ with_item nat_cmp m ms))) (sym (nat_cmp_is m x Less below))
          ∙ or_comm (m == k) ((x == k) || list_any (λ y. y == k) ms)
          ∙ ap (λ b. ((x == k) || list_any (λ y. y == k) ms) || b) (eqb_sym m k)
      | inr above ↦ elim (cases_eq m x) [
        | inl same ↦
            ap (λ o. list_any (λ y. y == k) (at_order o (m ∷ x ∷ ms) (x ∷ ms) (x ∷ with_item nat_cmp m ms)))
            (sym (nat_cmp_is m x Equal same))
            ∙ or_again (x == k) (list_any (λ y. y == k) ms)
            ∙ ap (λ b. ((x == k) || list_any (λ y. y == k) ms) || b) (eqb_sym x k ∙ ap (λ j. k == j) (sym same))
        | inr other ↦
            ap (λ o. list_any (λ y. y == k) (at_order o (m ∷ x ∷ ms) (x ∷ ms) (x ∷ with_item nat_cmp m ms)))
            (sym (nat_cmp_is m x Greater (omega (arith, above, other))))
            ∙ ap (λ b. (x == k) || b) (with_item_any m k ms)
            ∙ sym (or_assoc (x == k) (list_any (λ y. y == k) ms) (k == m))
      ]
    ]

-- a set with a count in it has that and what it had
pub contains_inserted : (r : Run) (m k : ℕ) → 0 < k → contains (insert_count r m) k ≡ (contains r k || (k == m))
contains_inserted r m k positive =
    elim (nat_le m r.upto) as (λ b. nat_le m r.upto ≡ b → contains (if b then r else if m == r.upto + 1 then absorb m r.above
    else record r { above = with_item nat_cmp m r.above }) k ≡ (contains r k || (k == m))) [
      | true ↦ λ within.
          same_bools (contains r k) (contains r k || (k == m)) (or_left (contains r k) (k == m))
          (λ h. elim (or_cases (contains r k) (k == m) h) [
            | inl before ↦ before
            | inr now ↦
                let same = eqb-true k m now in
                let le = leb-true m r.upto within in
                or_left (nat_lt 0 k && nat_le k r.upto) (list_any (λ x. x == k) r.above)
                (and_from (nat_lt 0 k) (nat_le k r.upto) (lt-ltb 0 k positive) (le-leb k r.upto (omega (arith, same, le))))
          ])
      | false ↦ λ big.
          elim (m == r.upto + 1) as (λ b. (m == r.upto + 1) ≡ b →
          contains (if b then absorb m r.above else record r { above = with_item nat_cmp m r.above }) k ≡ (contains r k || (k == m))) [
            | true ↦ λ next.
                let same = eqb-true m (r.upto + 1) next in
                contains_absorbed m k r.above
                ∙ ap (λ j. (nat_lt 0 k && nat_le k j) || list_any (λ x. x == k) r.above) same
                ∙ ap (λ b. b || list_any (λ x. x == k) r.above) (range_grows r.upto k)
                ∙ or_swap (nat_lt 0 k && nat_le k r.upto) (r.upto + 1 == k) (list_any (λ x. x == k) r.above)
                ∙ ap (λ b. contains r k || b) (eqb_sym (r.upto + 1) k ∙ ap (λ j. k == j) (sym same))
            | false ↦ λ other.
                ap (λ b. (nat_lt 0 k && nat_le k r.upto) || b) (with_item_any m k r.above)
                ∙ sym (or_assoc (nat_lt 0 k && nat_le k r.upto) (list_any (λ x. x == k) r.above) (k == m))
          ] refl
    ] refl

-- the same of what the code keeps of a set, once a count was put into it
pub meant : (r s : Run) (m : ℕ) → s ≡ insert_count r m → (k : ℕ) → 0 < k → contains s k ≡ (contains r k || (k == m))
meant r s m same k positive = ap (λ t. contains t k) same ∙ contains_inserted r m k positive

pub still_run : (r s : Run) (m : ℕ) → s ≡ insert_count r m → is_run r ≡ true → is_run s ≡ true
still_run r s m same h = subst (λ t. is_run t ≡ true) (sym same) (inserted_is r m h)

-- a count beyond the run goes on with it, or stands apart from it
module _ (r : Run) (m : ℕ) (beyond : r.upto < m) where
  past_run : insert_count r m ≡ (if m == r.upto + 1 then absorb m r.above else record r { above = with_item nat_cmp m r.above })
  past_run =
      ap (λ b. if b then r else if m == r.upto + 1 then absorb m r.above else record r { above = with_item nat_cmp m r.above })
      (lt-leb m r.upto beyond)

  pub inserted_next : (upto : ℕ) (above : List ℕ) → m ≡ r.upto + 1 → upto ≡ (absorb m r.above).upto → above ≡ (absorb m r.above).above →
      record { upto = upto; above = above } ≡ insert_count r m
  inserted_next upto above next last rest =
      (λ i. record { upto = last i; above = rest i })
      ∙ sym (past_run
      ∙ ap (λ b. if b then absorb m r.above else record r { above = with_item nat_cmp m r.above }) (eq-eqb m (r.upto + 1) next))

  pub inserted_apart : (above : List ℕ) → (m ≡ r.upto + 1 → ⊥) → above ≡ with_item nat_cmp m r.above →
      record { upto = r.upto; above = above } ≡ insert_count r m
  inserted_apart above apart is =
      (λ i. record { upto = r.upto; above = is i })
      ∙ sym (past_run ∙ ap (λ b. if b then absorb m r.above else record r { above = with_item nat_cmp m r.above })
      (false_from_ne_true (m == r.upto + 1) (λ e. apart (eqb-true m (r.upto + 1) e))))
