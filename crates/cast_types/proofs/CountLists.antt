-- What is put among counts leaves counts.
use Rattle.std.proofs.Common.{◌≡◌, ℕ, ◌<◌, ◌≤◌, Bool, true, false, List, [], ◌∷◌, length, Ordering, Less, Equal, Greater, refl}
use Rattle.std.specs.Prelude.{T, ◌&&◌, nat_lt, nat_le}
use Rattle.std.specs.List.{list_all}
use Rattle.std.specs.FinMap.Entries.{put, is_sorted, is_sorted-put, by_order}
use Rattle.std.proofs.lemmas.Bool.{and_parts, and_from, lt-ltb, le-leb, leb-true, false≢true}
use Rattle.std.specs.Cmp.{IsTotalOrder}
use Rattle.cast_types.specs.declared.names.Proc.{Proc}
use Rattle.cast_types.specs.Names.{Entry, proc_cmp}
use Rattle.cast_types.specs.Counts.{is_counts}
use Rattle.cast_types.proofs.Orders.{proc_total}

-- a test that passes is true, and the other way round
pub true_of : (b : Bool) → T b → b ≡ true
true_of true h = refl
true_of false h = absurd h

pub passes : (b : Bool) → b ≡ true → T b
passes true h = tt
passes false h = absurd (false≢true h)

pub sorted-put : {K V : Type 0} (R : K → K → Ordering) → IsTotalOrder R → (k : K) (v : V) (es : List (K × V)) → is_sorted R es ≡ true →
    is_sorted R (put R k v es) ≡ true
sorted-put R total k v es h = true_of (is_sorted R (put R k v es)) (is_sorted-put R total k v es (passes (is_sorted R es) h))

-- a test that holds of each entry, and of the new one at each key, holds of each after the put
pub all-put : {K V : Type 0} (R : K → K → Ordering) (test : K × V → Bool) (k : K) (v : V) (es : List (K × V)) →
    ((j : K) → test (j, v) ≡ true) → list_all test es ≡ true → list_all test (put R k v es) ≡ true
all-put R test k v [] new all = and_from (test (k, v)) true (new k) refl
all-put R test k v (e ∷ es) new all =
    let parts = and_parts (test e) (list_all test es) all in
    elim (R k e.0) as (λ o. list_all test (by_order o ((k, v) ∷ e ∷ es) ((e.0, v) ∷ es) (e ∷ put R k v es)) ≡ true) [
      | Less ↦ and_from (test (k, v)) (list_all test (e ∷ es)) (new k) all
      | Equal ↦ and_from (test (e.0, v)) (list_all test es) (new e.0) parts.1
      | Greater ↦ and_from (test e) (list_all test (put R k v es)) parts.0 (all-put R test k v es new parts.1)
    ]

-- the parts of the test
pub counts_parts : (c : List Entry) → is_counts c ≡ true →
    (is_sorted proc_cmp c ≡ true) × (length c ≤ 64) × (list_all (λ e. nat_lt 0 e.1) c ≡ true)
counts_parts c h =
    let first = and_parts (is_sorted proc_cmp c) (nat_le (length c) 64 && list_all (λ e. nat_lt 0 e.1) c) h in
    let second = and_parts (nat_le (length c) 64) (list_all (λ e. nat_lt 0 e.1) c) first.1 in
    (first.0, leb-true (length c) 64 second.0, second.1)

pub counts_from : (c : List Entry) → is_sorted proc_cmp c ≡ true → length c ≤ 64 → list_all (λ e. nat_lt 0 e.1) c ≡ true →
    is_counts c ≡ true
counts_from c sorted few positive =
    and_from (is_sorted proc_cmp c) (nat_le (length c) 64 && list_all (λ e. nat_lt 0 e.1) c) sorted
    (and_from (nat_le (length c) 64) (list_all (λ e. nat_lt 0 e.1) c) (le-leb (length c) 64 few) positive)

pub counts-put : (c : List Entry) (p : Proc) (n : ℕ) → is_counts c ≡ true → 0 < n → length (put proc_cmp p n c) ≤ 64 →
    is_counts (put proc_cmp p n c) ≡ true
counts-put c p n is positive room =
    let parts = counts_parts c is in
    counts_from (put proc_cmp p n c) (sorted-put proc_cmp proc_total p n c parts.0)
    room (all-put proc_cmp (λ e. nat_lt 0 e.1) p n c (λ _. lt-ltb 0 n positive) parts.2)
