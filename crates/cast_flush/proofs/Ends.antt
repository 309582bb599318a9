-- The order that a view ends with: how far it reaches, how long it is, and that it is within the cut.
use Rattle.std.proofs.Common.{◌≡◌, ℕ, ◌≤◌, suc, true, cond, Some, ◌⊎◌, inl, inr, List, [], ◌∷◌, length, refl, sym, ap, arith, length-append}
use Rattle.std.specs.Prelude.{nat_lt, nat_le, not, slice_get}
use Rattle.std.specs.Option.{option_map}
use Rattle.std.specs.List.{list_all, filter, fold}
use Rattle.std.proofs.lemmas.Bool.{and_parts, and_from, ltb-true, ltb-false, leb-true, le-leb, cond_both}
use Rattle.std.proofs.lemmas.List.{take_all, length-take}
use Rattle.cast_types.specs.Names.{Entry, entry_eq}
use Rattle.cast_types.specs.Sets.{is_among, apart_from}
use Rattle.cast_types.specs.Counts.{CountList, is_within}
use Rattle.cast_message.specs.Tail.{Tail}
use Rattle.cast_flush.specs.Reports.{Reports}
use Rattle.cast_flush.specs.Decisions.{end_of, no_stretch, longest, unplaced_entries, added_entries, ids_from}
use Rattle.cast_flush.specs.Laws.{LongestInWords, OrderIsWhole, OrderIsWithinTheCut}
use Rattle.cast_flush.proofs.Each.{all_filter, all_take, all_append, length_filter}
use Rattle.cast_types.proofs.Rising.{all_kept}

-- the farther of two
abbrev farther : Tail → Tail → Tail
farther t u = cond (nat_lt (end_of t) (end_of u)) u t

-- the farthest of a part of an order and those of reports
abbrev longest_from : Tail → Reports → Tail
longest_from t reports = fold (λ s r. farther s r.1.tail) t reports

-- the farther of two reaches as far as each
reaches : (t u : Tail) → (end_of t ≤ end_of (farther t u)) × (end_of u ≤ end_of (farther t u))
reaches t u =
    cond_both (nat_lt (end_of t) (end_of u)) u t (λ s. (end_of t ≤ end_of s) × (end_of u ≤ end_of s))
    (λ below. let lt = ltb-true (end_of t) (end_of u) below in (omega (arith, lt), omega arith))
    (λ above. let le = ltb-false (end_of t) (end_of u) above in (omega arith, le))

-- the farthest reaches as far as each
reaches_all : (t : Tail) (reports : Reports) → (end_of t ≤ end_of (longest_from t reports))
    × (list_all (λ r. nat_le (end_of r.1.tail) (end_of (longest_from t reports))) reports ≡ true)
reaches_all t [] = (omega arith, refl)
reaches_all t (r ∷ rs) =
    let here = reaches t r.1.tail in
    let first : end_of t ≤ end_of (farther t r.1.tail) = here.0 in
    let then : end_of r.1.tail ≤ end_of (farther t r.1.tail) = here.1 in
    let rest = reaches_all (farther t r.1.tail) rs in
    let more : end_of (farther t r.1.tail) ≤ end_of (longest_from (farther t r.1.tail) rs) = rest.0 in (
      omega (arith, first, more),
      and_from (nat_le (end_of r.1.tail) (end_of (longest_from (farther t r.1.tail) rs)))
          (list_all (λ s. nat_le (end_of s.1.tail) (end_of (longest_from (farther t r.1.tail) rs))) rs)
          (le-leb (end_of r.1.tail) (end_of (longest_from (farther t r.1.tail) rs)) (omega (arith, then, more))) rest.1,
    )

-- the farthest is the first part or that of some report
from_some : (t : Tail) (reports : Reports) →
    (longest_from t reports ≡ t) ⊎ ((i : ℕ) × (option_map (λ r. r.1.tail) (slice_get reports i) ≡ Some (longest_from t reports)))
from_some t [] = inl refl
from_some t (r ∷ rs) = elim (from_some (farther t r.1.tail) rs) [
  | inr later ↦ inr (suc later.0, later.1)
  | inl same ↦
      cond_both (nat_lt (end_of t) (end_of r.1.tail)) r.1.tail t
      (λ s. longest_from (farther t r.1.tail) rs ≡ s → (longest_from (farther t r.1.tail) rs ≡ t)
      ⊎ ((i : ℕ) × (option_map (λ x. x.1.tail) (slice_get (r ∷ rs) i) ≡ Some (longest_from (farther t r.1.tail) rs))))
      (λ _ is. inr (0, ap Some (sym is))) (λ _ is. inl is) same
]

-- the longest is that of some report, if any reaches anywhere, and no report's order reaches farther
pub longest_in_words : LongestInWords
longest_in_words reports = (from_some no_stretch reports, (reaches_all no_stretch reports).1)

-- the longest has no more ids than each has at most
few_ids : (n : ℕ) (t : Tail) (reports : Reports) → length t.ids ≤ n → list_all (λ r. nat_le (length r.1.tail.ids) n) reports ≡ true →
    length (longest_from t reports).ids ≤ n
few_ids n t [] few all = few
few_ids n t (r ∷ rs) few all =
    let parts = and_parts (nat_le (length r.1.tail.ids) n) (list_all (λ s. nat_le (length s.1.tail.ids) n) rs) all in
    few_ids n (farther t r.1.tail) rs
    (cond_both (nat_lt (end_of t) (end_of r.1.tail)) r.1.tail t (λ s. length s.ids ≤ n)
    (λ _. leb-true (length r.1.tail.ids) n parts.0) (λ _. few))
    parts.1

-- the ids of the longest that are within the cut
abbrev placed_in : CountList → Reports → List Entry
placed_in cut reports = filter (is_within cut) (longest reports).ids

-- the ids are at most 512 and 64, so the first 576 are all
pub order_is_whole : OrderIsWhole
order_is_whole cut reports all =
    let few : length (longest reports).ids ≤ 512 = few_ids 512 no_stretch reports (omega arith) all in
    let placed : length (placed_in cut reports) ≤ length (longest reports).ids = length_filter (is_within cut) (longest reports).ids in
    let more = length-take 64 (apart_from entry_eq (filter (is_within cut) (unplaced_entries reports)) (placed_in cut reports)) in
    let whole = length-append (placed_in cut reports) (added_entries cut reports (placed_in cut reports)) in
    take_all 576 (ids_from cut reports) (omega (arith, few, placed, more, whole))

-- both parts of the order are within the cut
pub order_is_within : OrderIsWithinTheCut
order_is_within cut reports =
    let fits : List Entry = filter (is_within cut) (unplaced_entries reports) in
    all_take (is_within cut) 576 (ids_from cut reports)
    (all_append (is_within cut) (placed_in cut reports) (added_entries cut reports (placed_in cut reports))
    (all_filter (is_within cut) (longest reports).ids)
    (all_take (is_within cut) 64 (apart_from entry_eq fits (placed_in cut reports))
    (all_kept (is_within cut) (λ x. not (is_among entry_eq x (placed_in cut reports)))
    fits (all_filter (is_within cut) (unplaced_entries reports)))))
