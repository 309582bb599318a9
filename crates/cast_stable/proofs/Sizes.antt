-- How much the ledger keeps after each change, and that the keys of its runs stay in order.
use Rattle.std.proofs.Common.{◌≡◌, ℕ, suc, ◌+◌, ◌*◌, ◌≤◌, Bool, true, false, not, cond, List, [], ◌∷◌, length, filter, Contains}
use Rattle.std.proofs.Common.{Ordering, Less, Equal, Greater, Some, None, unwrap_or, max, refl, ap, subst, ◌∙◌, arith, length-drop}
use Rattle.std.specs.Prelude.{◌==◌, nat_le, if◌then◌else◌}
use Rattle.std.specs.Bool.{passes}
use Rattle.std.specs.Cmp.{IsTotalOrder}
use Rattle.std.specs.Ordering.{is_eq, is_lt, nat_cmp}
use Rattle.std.specs.FinMap.Entries.{find, put, by_order, below_all, is_sorted, is_sorted-put, is_sorted-where_key}
use Rattle.std.proofs.lemmas.Bool.{and_parts, and_from, not-true}
use Rattle.std.proofs.lemmas.List.Elements.{All-contains, filter_passes}
use Rattle.std.proofs.lemmas.List.Sums.{sum_by-cons, length-filter, count_by-le-length}
use Rattle.cast_types.specs.declared.names.SiteNo.{SiteNo}
use Rattle.cast_types.specs.declared.names.GroupNo.{GroupNo}
use Rattle.cast_types.specs.declared.names.Uid.{Uid}
use Rattle.cast_types.specs.declared.source.Source.{Source}
use Rattle.cast_types.specs.Sets.{with_item}
use Rattle.cast_types.specs.Sources.{source_cmp, source_of, is_ended}
use Rattle.cast_types.proofs.CountLists.{true_of}
use Rattle.cast_types.proofs.Lengths.{with_item_length}
use Rattle.cast_types.proofs.Rising.{less_is}
use Rattle.cast_types.proofs.Sources.{source_total}
use Rattle.cast_stable.specs.declared.witness.Witness.{Witness}
use Rattle.cast_stable.specs.Runs.{Run, no_counts, run_after, absorb, insert_count}
use Rattle.cast_stable.specs.Witnesses.{witness_cmp, witness}
use Rattle.cast_stable.specs.Acks.{Acks, received_run, acked_run, told_count, new_ledger, told_ledger}
use Rattle.cast_stable.specs.Acks.{received_ledger, acked_ledger, learnt_ledger}
use Rattle.cast_stable.specs.Sizes.{runs_size, size, is_in_order, HasNoneEnded}
use Rattle.cast_stable.specs.Sizes.{IsAfter, opens, receives, takes_ack, learns, enters}
use Rattle.cast_stable.proofs.Witnesses.{witness_total}

-- a count adds at most one above the gaps
inserted_above : (r : Run) (m : ℕ) → length (insert_count r m).above ≤ length r.above + 1
inserted_above r m =
    elim (nat_le m r.upto) as (λ b. length (if b then r
    else if m == r.upto + 1 then absorb m r.above else record r { above = with_item nat_cmp m r.above }).above ≤ length r.above + 1) [
      | true ↦ omega arith
      | false ↦
          elim (m == r.upto + 1)
          as (λ b. length (if b then absorb m r.above else record r { above = with_item nat_cmp m r.above }).above ≤ length r.above + 1) [
            | true ↦ omega (arith, length-drop (run_after m r.above).1 r.above)
            | false ↦ with_item_length nat_cmp m r.above
          ]
    ]

module _ {K : Type 0} where
  -- one run more, and what is kept of a list of runs
  runs_more : (e : K × Run) (es : List (K × Run)) → runs_size (e ∷ es) ≡ runs_size es + (length e.1.above + 1)
  runs_more e es = omega (arith, sum_by-cons (λ (x : K × Run). length x.1.above) e es)

  kept_runs : (keep : K × Run → Bool) (es : List (K × Run)) → runs_size (filter keep es) ≤ runs_size es
  kept_runs keep [] = omega arith
  kept_runs keep (e ∷ es) = elim (keep e) as (λ b. runs_size (cond b (e ∷ filter keep es) (filter keep es)) ≤ runs_size (e ∷ es)) [
    | true ↦ omega (arith, kept_runs keep es, runs_more e es, runs_more e (filter keep es))
    | false ↦ omega (arith, kept_runs keep es, runs_more e es)
  ]

module _ {K V : Type 0} (R : K → K → Ordering) where
  -- a key has at most one entry more
  put_length : (k : K) (v : V) (es : List (K × V)) → length (put R k v es) ≤ length es + 1
  put_length k v [] = omega arith
  put_length k v (e ∷ es) =
      elim (R k e.0) as (λ o. length (by_order o ((k, v) ∷ e ∷ es) ((e.0, v) ∷ es) (e ∷ put R k v es)) ≤ suc (length es) + 1) [
        | Less ↦ omega arith
        | Equal ↦ omega arith
        | Greater ↦ omega (arith, put_length k v es)
      ]

  -- a key before the first of a list in order is not in it
  none_before : IsTotalOrder R → (k first : K) (es : List (K × V)) → R k first ≡ Less → below_all R first es ≡ true → find R k es ≡ None
  none_before total k first [] less below = refl
  none_before total k first (e ∷ es) less below =
      let parts = and_parts (is_lt (R first e.0)) (below_all R first es) below in
      ap (λ o. cond (is_eq o) (Some e.1) (find R k es)) (total.trans k first e.0 less (less_is (R first e.0) parts.0))
      ∙ none_before total k first es less parts.1

-- a run that keeps at most one count more than the one at its key adds at most two numbers
put_size : {K : Type 0} {R : K → K → Ordering} → IsTotalOrder R → (k : K) (run : Run) (es : List (K × Run)) → is_sorted R es ≡ true →
    length run.above ≤ length (unwrap_or (find R k es) no_counts).above + 1 → runs_size (put R k run es) ≤ runs_size es + 2
put_size {R = R} total k run [] sorted few = omega (arith, few, runs_more (k, run) [])
put_size {R = R} total k run (e ∷ es) sorted few =
    let parts = and_parts (below_all R e.0 es) (is_sorted R es) sorted in
    elim (R k e.0)
    as (λ o. R k e.0 ≡ o → length run.above ≤ length (unwrap_or (cond (is_eq o) (Some e.1) (find R k es)) no_counts).above + 1 →
    runs_size (by_order o ((k, run) ∷ e ∷ es) ((e.0, run) ∷ es) (e ∷ put R k run es)) ≤ runs_size (e ∷ es) + 2) [
      | Less ↦ λ less at_most.
          let alone : length run.above ≤ 1 =
          subst (λ o. length run.above ≤ length (unwrap_or o no_counts).above + 1) (none_before R total k e.0 es less parts.0) at_most in
          omega (arith, alone, runs_more (k, run) (e ∷ es))
      | Equal ↦ λ _ at_most. omega (arith, at_most, runs_more e es, runs_more (e.0, run) es)
      | Greater ↦ λ _ at_most. omega (arith, put_size total k run es parts.1 at_most, runs_more e es, runs_more e (put R k run es))
    ] refl few

pub new_size : (here : SiteNo) → size (new_ledger here) ≡ 0
new_size here = refl

pub received_size : (l : Acks) (u : Uid) → is_sorted source_cmp l.received ≡ true → size (received_ledger l u) ≤ size l + 2
received_size l u sorted =
    let run = received_run l (source_of u) in
    omega (arith, put_size source_total (source_of u) (insert_count run u.count) l.received sorted (inserted_above run u.count))

pub acked_size : (l : Acks) (from : SiteNo) (u : Uid) → is_sorted witness_cmp l.acked ≡ true →
    size (acked_ledger l from u) ≤ size l + 2
acked_size l from u sorted =
    let key = witness (source_of u) from in
    let run = acked_run l (source_of u) from in
    omega (arith, put_size witness_total key (insert_count run u.count) l.acked sorted (inserted_above run u.count))

pub learnt_size : (l : Acks) (u : Uid) → size (learnt_ledger l u) ≤ size l + 1
learnt_size l u = omega (arith, put_length source_cmp (source_of u) (max (told_count l (source_of u)) u.count) l.told)

pub told_size : (l : Acks) (g : GroupNo) (number : ℕ) (sites : List SiteNo) → size (told_ledger l g number sites) ≤ size l
told_size l g number sites =
    let stays : Source × ℕ → Bool = λ e. not (is_ended g number e.0) in
    omega (
      arith,
      kept_runs (λ (e : Source × Run). not (is_ended g number e.0)) l.received,
      kept_runs (λ (e : Witness × Run). not (is_ended g number e.0.source)) l.acked,
      length-filter stays l.told,
      count_by-le-length stays l.told,
    )

-- what a test takes out is not kept
stands : {A : Type 0} (test : A → Bool) (es : List A) (e : A) → Contains (filter (λ x. not (test x)) es) e → test e ≡ false
stands {A = A} test es e kept =
    let keep : A → Bool = λ x. not (test x) in
    not-true (test e) (All-contains (λ x. keep x ≡ true) (filter keep es) e (filter_passes keep es) kept)

pub told_ended : (l : Acks) (g : GroupNo) (number : ℕ) (sites : List SiteNo) → HasNoneEnded g number (told_ledger l g number sites)
told_ended l g number sites = record {
  received = stands (λ e. is_ended g number e.0) l.received;
  acked = stands (λ e. is_ended g number e.0.source) l.acked;
  told = stands (λ e. is_ended g number e.0) l.told;
}

-- a value put among entries in order leaves them in order, and so does what is taken out
module _ {K V : Type 0} (R : K → K → Ordering) where
  sorted_put : IsTotalOrder R → (k : K) (v : V) (es : List (K × V)) → is_sorted R es ≡ true → is_sorted R (put R k v es) ≡ true
  sorted_put total k v es sorted = true_of (is_sorted R (put R k v es)) (is_sorted-put R total k v es (passes (is_sorted R es) sorted))

  sorted_kept : (keep : K → Bool) (es : List (K × V)) → is_sorted R es ≡ true → is_sorted R (filter (λ e. keep e.0) es) ≡ true
  sorted_kept keep es sorted =
      true_of (is_sorted R (filter (λ e. keep e.0) es)) (is_sorted-where_key R keep es (passes (is_sorted R es) sorted))

-- a ledger is in order exactly if both of its lists of runs are
in_order : (l : Acks) → is_in_order l ≡ true → (is_sorted source_cmp l.received ≡ true) × (is_sorted witness_cmp l.acked ≡ true)
in_order l = and_parts (is_sorted source_cmp l.received) (is_sorted witness_cmp l.acked)

from_both : (l : Acks) → is_sorted source_cmp l.received ≡ true → is_sorted witness_cmp l.acked ≡ true → is_in_order l ≡ true
from_both l = and_from (is_sorted source_cmp l.received) (is_sorted witness_cmp l.acked)

pub all_in_order : (n : ℕ) (l : Acks) → IsAfter n l → is_in_order l ≡ true
all_in_order n l (opens here) = refl
all_in_order n l (receives k before u after) =
    let both = in_order before (all_in_order k before after) in
    from_both (received_ledger before u)
    (sorted_put source_cmp source_total (source_of u) (insert_count (received_run before (source_of u)) u.count) before.received both.0)
    both.1
all_in_order n l (takes_ack k before from u after) =
    let both = in_order before (all_in_order k before after) in
    from_both (acked_ledger before from u) both.0
    (sorted_put witness_cmp witness_total (witness (source_of u) from) (insert_count (acked_run before (source_of u) from) u.count)
    before.acked both.1)
all_in_order n l (learns k before u after) = all_in_order k before after
all_in_order n l (enters k before g number sites after) =
    let both = in_order before (all_in_order k before after) in
    from_both (told_ledger before g number sites) (sorted_kept source_cmp (λ s. not (is_ended g number s)) before.received both.0)
    (sorted_kept witness_cmp (λ w. not (is_ended g number w.source)) before.acked both.1)

pub all_few : (n : ℕ) (l : Acks) → IsAfter n l → size l ≤ 2 * n
all_few n l (opens here) = omega arith
all_few n l (receives k before u after) =
    omega (arith, all_few k before after, received_size before u (in_order before (all_in_order k before after)).0)
all_few n l (takes_ack k before from u after) =
    omega (arith, all_few k before after, acked_size before from u (in_order before (all_in_order k before after)).1)
all_few n l (learns k before u after) = omega (arith, all_few k before after, learnt_size before u)
all_few n l (enters k before g number sites after) = omega (arith, all_few k before after, told_size before g number sites)
