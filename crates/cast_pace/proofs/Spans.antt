-- The longest least time is that of the last two spans.
use Rattle.std.proofs.Common.{◌≡◌, ◌⊎◌, ℕ, zero, suc, ◌+◌, ◌<◌, ◌≤◌, Bool, true, false, cond, max, List, [], ◌∷◌, length}
use Rattle.std.proofs.Common.{take, drop, refl, sym, ap, ◌∙◌, inl, inr, arith, add-one, zero-add, suc-add}
use Rattle.std.specs.Prelude.{nat_lt}
use Rattle.std.proofs.lemmas.Bool.{ltb-true, ltb-false}
use Rattle.cast_pace.specs.declared.speed.Slowest.{Slowest}
use Rattle.cast_pace.specs.Speeds.{longest_least, slowest_with}
use Rattle.cast_pace.specs.Lasting.{greatest, slowest_after, IsLongestOfLast, LongestIsOfTheLast}

-- of a stretch and the one behind it
greatest_of_both : (m n : ℕ) (ns : List ℕ) → greatest (take (m + n) ns) ≡ max (greatest (take m ns)) (greatest (take n (drop m ns)))
greatest_of_both zero n ns =
    omega (
      arith,
      ap (λ k. greatest (take k ns)) (zero-add n),
      ap (λ (l : List ℕ). greatest (take n l)) (none_dropped ns),
      none_taken ns,
    )
  where
    none_taken : (l : List ℕ) → greatest (take 0 l) ≡ 0
    none_taken [] = refl
    none_taken (x ∷ l) = refl

    none_dropped : (l : List ℕ) → drop 0 l ≡ l
    none_dropped [] = refl
    none_dropped (x ∷ l) = refl
greatest_of_both (suc m) n [] = nothing (suc m + n) ∙ sym (ap (max 0) (nothing n))
  where
    nothing : (k : ℕ) → greatest (take k []) ≡ 0
    nothing zero = refl
    nothing (suc k) = refl
greatest_of_both (suc m) n (x ∷ ns) =
    let first : greatest (take (suc m + n) (x ∷ ns)) ≡ max x (greatest (take (m + n) ns)) =
    ap (λ k. greatest (take k (x ∷ ns))) (suc-add m n) in
    omega (arith, first, greatest_of_both m n ns)

-- this span, and the one before it, if there was one
record Spans (leasts : List ℕ) (slowest : Slowest) : Type 0 where
  earlier : ℕ
  span : slowest.count ≤ 4096
  within : slowest.count + earlier ≤ length leasts
  whole : ((earlier ≡ 0) × (slowest.count ≡ length leasts)) ⊎ ((earlier ≡ 4096) × (0 < slowest.count))
  now : slowest.now ≡ greatest (take slowest.count leasts)
  before : slowest.before ≡ greatest (take earlier (drop slowest.count leasts))

more_spans : (least : ℕ) (leasts : List ℕ) (slowest : Slowest) → Spans leasts slowest → Spans (least ∷ leasts) (slowest_with slowest least)
more_spans least leasts slowest spans = by (nat_lt slowest.count 4096) refl
  where
    by : (b : Bool) → nat_lt slowest.count 4096 ≡ b → Spans (least ∷ leasts) (cond b
        (record slowest { now = max slowest.now least; count = slowest.count + 1 })
        (record { now = least; before = slowest.now; count = 1 }))
    by true less = record {
      earlier = spans.earlier;
      span = omega (arith, ltb-true slowest.count 4096 less);
      within = omega (arith, spans.within);
      whole = elim spans.whole [
        | inl (none, all) ↦ inl (none, omega (arith, all))
        | inr (full, some) ↦ inr (full, omega arith)
      ];
      now =
          let first : greatest (take (slowest.count + 1) (least ∷ leasts)) ≡ max least (greatest (take slowest.count leasts)) =
          ap (λ k. greatest (take k (least ∷ leasts))) (add-one slowest.count) in
          omega (arith, first, spans.now);
      before = spans.before ∙ sym (ap (λ k. greatest (take spans.earlier (drop k (least ∷ leasts)))) (add-one slowest.count));
    }
    by false not_less = record {
      earlier = 4096;
      span = omega arith;
      within = omega (arith, spans.within, count_is);
      whole = inr (refl, omega arith);
      now = omega arith;
      before = spans.now ∙ ap (λ n. greatest (take n leasts)) count_is;
    }
      where
        count_is : slowest.count ≡ 4096
        count_is = omega (arith, spans.span, ltb-false slowest.count 4096 not_less)

spans_after : (leasts : List ℕ) → Spans leasts (slowest_after leasts)
spans_after [] = record {
  earlier = 0;
  span = omega arith;
  within = omega arith;
  whole = inl (refl, refl);
  now = refl;
  before = refl;
}
spans_after (least ∷ leasts) = more_spans least leasts (slowest_after leasts) (spans_after leasts)

pub longest_is_of_the_last : LongestIsOfTheLast
longest_is_of_the_last leasts = by (slowest_after leasts) (spans_after leasts)
  where
    by : (slowest : Slowest) → Spans leasts slowest → IsLongestOfLast leasts (longest_least slowest)
    by slowest spans = record {
      count = slowest.count + spans.earlier;
      within = spans.within;
      enough = elim spans.whole [
        | inl (none, all) ↦ inl (omega (arith, none, all))
        | inr (full, some) ↦ inr (omega (arith, full, some))
      ];
      few = elim spans.whole [
        | inl (none, all) ↦ omega (arith, none, spans.span)
        | inr (full, some) ↦ omega (arith, full, spans.span)
      ];
      is = omega (arith, spans.now, spans.before, greatest_of_both slowest.count spans.earlier leasts);
    }
