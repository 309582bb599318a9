-- The counts of the members of a view are counts.
use Rattle.std.proofs.Common.{◌≡◌, ℕ, ◌≤◌, true, false, cond, List, [], ◌∷◌, length, refl, arith}
use Rattle.std.specs.Prelude.{nat_lt, map}
use Rattle.std.specs.List.{list_all}
use Rattle.std.specs.Ordering.{is_lt}
use Rattle.std.specs.FinMap.Entries.{is_sorted, below_all}
use Rattle.std.proofs.lemmas.Bool.{and_parts, and_from}
use Rattle.std.proofs.lemmas.List.{length-map}
use Rattle.cast_types.specs.declared.names.Proc.{Proc}
use Rattle.cast_types.specs.Names.{Entry, proc_cmp}
use Rattle.cast_types.specs.Counts.{is_counts}
use Rattle.cast_types.specs.Rising.{is_rising}
use Rattle.cast_types.proofs.CountLists.{counts_from}
use Rattle.cast_flush.proofs.Each.{all_filter, length_filter}
use Rattle.cast_view.specs.MemberSide.{counts_by}

module _ (count : Proc → ℕ) where
  -- who is below each of these is below each whom the counts have
  below_counts : (p : Proc) (procs : List Proc) → list_all (λ q. is_lt (proc_cmp p q)) procs ≡ true →
      below_all proc_cmp p (counts_by count procs) ≡ true
  below_counts p [] all = refl
  below_counts p (q ∷ qs) all =
      let parts = and_parts (is_lt (proc_cmp p q)) (list_all (λ z. is_lt (proc_cmp p z)) qs) all in
      elim (nat_lt 0 (count q)) as (λ b. below_all proc_cmp p (cond b ((q, count q) ∷ counts_by count qs) (counts_by count qs)) ≡ true) [
        | true ↦ and_from (is_lt (proc_cmp p q)) (below_all proc_cmp p (counts_by count qs)) parts.0 (below_counts p qs parts.1)
        | false ↦ below_counts p qs parts.1
      ]

  -- the counts of who rise do
  counts_rise : (procs : List Proc) → is_rising proc_cmp procs ≡ true → is_sorted proc_cmp (counts_by count procs) ≡ true
  counts_rise [] rising = refl
  counts_rise (q ∷ qs) rising =
      let parts = and_parts (list_all (λ z. is_lt (proc_cmp q z)) qs) (is_rising proc_cmp qs) rising in
      elim (nat_lt 0 (count q)) as (λ b. is_sorted proc_cmp (cond b ((q, count q) ∷ counts_by count qs) (counts_by count qs)) ≡ true) [
        | true ↦
            and_from (below_all proc_cmp q (counts_by count qs)) (is_sorted proc_cmp (counts_by count qs)) (below_counts q qs parts.0)
            (counts_rise qs parts.1)
        | false ↦ counts_rise qs parts.1
      ]

  -- those of at most 64 who rise are counts
  pub counts_of_few : (procs : List Proc) → is_rising proc_cmp procs ≡ true → length procs ≤ 64 → is_counts (counts_by count procs) ≡ true
  counts_of_few procs rising few =
      let entries : List Entry = map (λ p. (p, count p)) procs in
      let kept : length (counts_by count procs) ≤ length entries = length_filter (λ e. nat_lt 0 e.1) entries in
      let all : length entries ≡ length procs = length-map procs (λ p. (p, count p)) in
      counts_from (counts_by count procs) (counts_rise procs rising) (omega (arith, kept, all, few))
      (all_filter (λ e. nat_lt 0 e.1) entries)
