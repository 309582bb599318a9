-- The windows of casts, by division.
use Rattle.std.proofs.Common.{◌≡◌, min, max, ℕ, ◌+◌, ◌-◌, ◌*◌, ◌/◌, ◌<◌, ◌≤◌, inl, inr, arith}
use Rattle.std.proofs.Math.Nat.{div-mul-le_self, le-div_iff_mul-le, mul-le-mul_right}
use Rattle.std.proofs.lemmas.Bool.{cases_lt}
use Rattle.std.proofs.lemmas.Nat.{mul-le}
use Rattle.cast_pace.specs.Windows.{IsFittingWindow, IsWindow, taken_by}

-- one more part than fit takes more
more_than_fit : (room each : ℕ) → 0 < each → room < (room / each + 1) * each
more_than_fit room each some = elim (cases_lt room ((room / each + 1) * each)) [
  | inl lt ↦ lt
  | inr le ↦ absurd (omega (arith, (le-div_iff_mul-le some).1 le))
]

abbrev each_of : ℕ → ℕ → ℕ
each_of sites len = (2 * len + 1024) * (sites - 1)

-- the least of the window of all casts and of what fits, which counts as two at least
pub fitting_window : (held sites room len all window : ℕ) → 1 < sites → IsWindow held sites all →
    window ≡ min all (max (room / each_of sites len) 2) → IsFittingWindow held sites room len window
fitting_window held sites room len all window others is least = record {
  all = all;
  window_of_all = is;
  within = omega (arith, least);
  fits = elim (cases_lt 2 (room / each_of sites len)) [
    | inl more ↦ inr (within_room (omega (arith, least, more)))
    | inr few ↦ inl (omega (arith, least, few))
  ];
  greatest = elim (cases_lt window all) [
    | inl less ↦ inr (omega (arith, least, less), beyond_room (omega (arith, least, less)))
    | inr whole ↦ inl (omega (arith, least, whole))
  ];
}
  where
    within_room : window ≤ room / each_of sites len → taken_by window sites len ≤ room
    within_room le =
        let all_fit : window * each_of sites len ≤ room / each_of sites len * each_of sites len = mul-le-mul_right (each_of sites len) le in
        omega (arith, all_fit, div-mul-le_self room (each_of sites len))

    beyond_room : room / each_of sites len ≤ window → room < taken_by (window + 1) sites len
    beyond_room le =
        let more : (room / each_of sites len + 1) * each_of sites len ≤ (window + 1) * each_of sites len =
        mul-le-mul_right (each_of sites len) (omega (arith, le)) in
        let some : 0 < each_of sites len = mul-le 1 1 (2 * len + 1024) (sites - 1) (omega arith) (omega (arith, others)) in
        omega (arith, more, more_than_fit room (each_of sites len) some)
