-- A message's counts are delivered exactly if all ids that they cover are, but for its own.
use Rattle.std.proofs.Common.{◌≡◌, ℕ, ◌-◌, ◌<◌, ◌≤◌, Bool, true, false, cond, not, ◌||◌, List, map, sym, ap, ◌∙◌, inl, inr, arith}
use Rattle.std.specs.Prelude.{nat_le}
use Rattle.std.specs.List.{list_all, filter, range_with_len}
use Rattle.std.proofs.lemmas.Bool.{cases_Bool, cases_lt, false≢true, leb-true, le-leb, or_cases, or_left, or_right}
use Rattle.cast_types.specs.declared.names.GroupNo.{GroupNo}
use Rattle.cast_types.specs.declared.names.Uid.{Uid}
use Rattle.cast_types.specs.Names.{Entry, uid_eq, uid_in}
use Rattle.cast_types.proofs.Orders.{same_uid, uid_itself}
use Rattle.cast_ready.specs.declared.row.Row.{Row}
use Rattle.cast_ready.specs.declared.gate.Gate.{Gate}
use Rattle.cast_ready.specs.Ready.{Process, first_of, covered_entries, has_delivered}
use Rattle.cast_ready.specs.Rows.{done_in, needed_count, has_past}
use Rattle.cast_delay.specs.Fits.{HasNotEnded, RowFits}
use Rattle.cast_delay.proofs.ListLemmas.{list_all-filter, list_all-map, list_all-flat_map, list_all_agree, range_holds, holds_range}
use Rattle.cast_types.proofs.Bools.{same_bools}

-- the message's own entry needs one less
pub needed_own : (id : Uid) (h : GroupNo) (v : ℕ) (e : Entry) → uid_eq (uid_in h v e) id ≡ true → needed_count id h v e ≡ e.1 - 1
needed_own id h v e own = ap (λ b. cond b (e.1 - 1) e.1) own

pub needed_other : (id : Uid) (h : GroupNo) (v : ℕ) (e : Entry) → uid_eq (uid_in h v e) id ≡ false → needed_count id h v e ≡ e.1
needed_other id h v e other = ap (λ b. cond b (e.1 - 1) e.1) other

-- each id of the entry but the message's own is among those needed
needed_reaches : (id : Uid) (h : GroupNo) (v : ℕ) (e : Entry) (k : ℕ) → k ≤ e.1 → uid_eq id (uid_in h v (e.0, k)) ≡ false →
    k ≤ needed_count id h v e
needed_reaches id h v e k le other = elim (cases_Bool (uid_eq (uid_in h v e) id)) [
  | inl own ↦
      let less = needed_own id h v e own in
      let apart : k ≡ e.1 → ⊥ = λ same.
      false≢true (sym other
      ∙ ap (λ n. uid_eq id (uid_in h v (e.0, n))) same
      ∙ ap (λ u. uid_eq id u) (same_uid (uid_in h v e) id own)
      ∙ uid_itself id) in
      rw less (omega arith)
  | inr all ↦ rw (needed_other id h v e all) le
]

-- no more is needed than the entry has
pub within_entry : (id : Uid) (h : GroupNo) (v : ℕ) (e : Entry) → needed_count id h v e ≤ e.1
within_entry id h v e = elim (cases_Bool (uid_eq (uid_in h v e) id)) [
  | inl own ↦ omega (arith, needed_own id h v e own)
  | inr other ↦ omega (arith, needed_other id h v e other)
]

-- and the last one needed is not the message's own
needed_apart : (id : Uid) (h : GroupNo) (v : ℕ) (e : Entry) → 0 < needed_count id h v e →
    uid_eq id (uid_in h v (e.0, needed_count id h v e)) ≡ true → ⊥
needed_apart id h v e some own = elim (cases_Bool (uid_eq (uid_in h v e) id)) [
  | inl here ↦
      let less = needed_own id h v e here in
      let one = ap (λ (u : Uid). u.count) (same_uid id (uid_in h v (e.0, needed_count id h v e)) own) in
      let other = ap (λ (u : Uid). u.count) (same_uid (uid_in h v e) id here) in
      omega (arith, less, one, other, some)
  | inr there ↦
      let all = needed_other id h v e there in
      let same : uid_in h v e ≡ id =
      ap (λ n. uid_in h v (e.0, n)) (sym all) ∙ sym (same_uid id (uid_in h v (e.0, needed_count id h v e)) own) in
      false≢true (sym there ∙ ap (λ u. uid_eq u id) same ∙ uid_itself id)
]

module _ (p : Process) (id : Uid) (h : GroupNo) (v : ℕ) where
  -- the message itself, or delivered
  abbrev passes : Uid → Bool
  passes u = uid_eq id u || has_delivered p u

  -- all ids but the message's own are delivered exactly if all pass, entry by entry
  pub past_spelled : (c : List Entry) → list_all (has_delivered p) (filter (λ u. not (uid_eq id u)) (map (uid_in h v) (covered_entries c)))
      ≡ list_all (λ e. list_all (λ k. passes (uid_in h v (e.0, k))) (range_with_len 1 e.1)) c
  past_spelled c =
      list_all-filter (has_delivered p) (uid_eq id) (map (uid_in h v) (covered_entries c))
      ∙ list_all-map passes (uid_in h v) (covered_entries c)
      ∙ list_all-flat_map (λ f. passes (uid_in h v f)) first_of c
      ∙ list_all_agree (λ e. list_all (λ f. passes (uid_in h v f)) (first_of e))
      (λ e. list_all (λ k. passes (uid_in h v (e.0, k))) (range_with_len 1 e.1))
      (λ e. list_all-map (λ f. passes (uid_in h v f)) (λ k. (e.0, k)) (range_with_len 1 e.1)) c

module _ (gate : GroupNo → Gate) (p : Process) (row : Row) (fits : RowFits gate p row) (id : Uid) (h : GroupNo) (v : ℕ)
    (stands : HasNotEnded gate h v) where
  -- what is needed of an entry is delivered exactly if all of its ids pass
  entry_counted : (e : Entry) →
      nat_le (needed_count id h v e) (done_in row h v e.0) ≡ list_all (λ k. passes p id h v (uid_in h v (e.0, k))) (range_with_len 1 e.1)
  entry_counted e =
      same_bools (nat_le (needed_count id h v e) (done_in row h v e.0))
      (list_all (λ k. passes p id h v (uid_in h v (e.0, k))) (range_with_len 1 e.1)) there back
    where
      there : nat_le (needed_count id h v e) (done_in row h v e.0) ≡ true →
          list_all (λ k. passes p id h v (uid_in h v (e.0, k))) (range_with_len 1 e.1) ≡ true
      there counted = holds_range (λ k. passes p id h v (uid_in h v (e.0, k))) e.1 1 (λ k low high.
          let u = uid_in h v (e.0, k) in
          elim (cases_Bool (uid_eq id u)) [
            | inl own ↦ or_left (uid_eq id u) (has_delivered p u) own
            | inr other ↦
                let reaches = needed_reaches id h v e k (omega arith) other in
                let enough = leb-true (needed_count id h v e) (done_in row h v e.0) counted in
                or_right (uid_eq id u) (has_delivered p u) ((fits.counts u stands).1 (omega arith, omega (arith, reaches, enough)))
          ])

      back : list_all (λ k. passes p id h v (uid_in h v (e.0, k))) (range_with_len 1 e.1) ≡ true →
          nat_le (needed_count id h v e) (done_in row h v e.0) ≡ true
      back all = le-leb (needed_count id h v e) (done_in row h v e.0) (elim (cases_lt 0 (needed_count id h v e)) [
        | inl some ↦
            let u = uid_in h v (e.0, needed_count id h v e) in
            let within : needed_count id h v e ≤ e.1 = within_entry id h v e in
            elim (or_cases (uid_eq id u) (has_delivered p u) (range_holds (λ k. passes p id h v (uid_in h v (e.0, k)))
            e.1 1 all (needed_count id h v e) (omega arith) (omega (arith, within)))) [
              | inl own ↦ absurd (needed_apart id h v e some own)
              | inr done ↦ ((fits.counts u stands).0 done).1
            ]
        | inr none ↦ omega (arith, none)
      ])

  -- and so for all entries
  pub past_counted : (c : List Entry) →
      has_past row id h v c ≡ list_all (has_delivered p) (filter (λ u. not (uid_eq id u)) (map (uid_in h v) (covered_entries c)))
  past_counted c =
      list_all_agree (λ e. nat_le (needed_count id h v e) (done_in row h v e.0))
      (λ e. list_all (λ k. passes p id h v (uid_in h v (e.0, k))) (range_with_len 1 e.1)) entry_counted c
      ∙ sym (past_spelled p id h v c)
