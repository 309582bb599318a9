-- The rows of a queue, where the row of one process changes or one is added.
use Rattle.std.proofs.Common.{◌≡◌, ◌↔◌, ℕ, ◌<◌, ◌≤◌, Bool, true, false, cond, not, ◌&&◌, List, [], ◌∷◌, ◌++◌}
use Rattle.std.proofs.Common.{map, Option, Some, None, unwrap_or, refl, sym, ap, subst, ◌∙◌, inl, inr, arith}
use Rattle.std.specs.Prelude.{nat_lt, is_some, if◌then◌else◌}
use Rattle.std.specs.Option.{IsSome, option_map}
use Rattle.std.proofs.lemmas.Bool.{cases_Bool, false≢true, not-false, le-ltb}
use Rattle.cast_types.specs.declared.names.GroupNo.{GroupNo}
use Rattle.cast_types.specs.declared.names.Proc.{Proc}
use Rattle.cast_types.specs.declared.names.Uid.{Uid}
use Rattle.cast_types.specs.declared.names.Standing.TheVariants.{Outside}
use Rattle.cast_types.specs.declared.source.Source.{Source}
use Rattle.cast_types.specs.Names.{group_eq, proc_eq, uid_eq}
use Rattle.cast_types.specs.Sets.{is_among}
use Rattle.cast_types.specs.Sources.{source, is_ended, but_ended}
use Rattle.cast_types.proofs.Orders.{same_group, same_proc}
use Rattle.cast_types.proofs.Sources.{find_but_ended}
use Rattle.cast_clock.proofs.Entries.{option_cases}
use Rattle.cast_ready.specs.declared.row.Row.{Row}
use Rattle.cast_ready.specs.declared.gate.Gate.{Gate}
use Rattle.cast_ready.specs.Ready.{Process, has_delivered}
use Rattle.cast_ready.specs.DeliveredCounts.{DeliveredCounts, count_at}
use Rattle.cast_ready.specs.Rows.{ended_row, new_row}
use Rattle.cast_delay.specs.Queue.{row_of, but_row, change_row}
use Rattle.cast_delay.specs.Fits.{HasNotEnded, RowFits, StandsFor, HasNotBegun, set_process}
use Rattle.cast_delay.proofs.Finds.{find-append_some, find-append_none, find_mapped, find_dropped, find_kept}

pub some_row : (o : Option Row) → IsSome o → (row : Row) × (o ≡ Some row)
some_row None none = absurd (false≢true none)
some_row (Some row) some = (row, refl)

module _ (p : Proc) (f : Row → Row) (keeps : (r : Row) → (f r).process ≡ r.process) where
  same_process : (b : Bool) (r : Row) → (cond b (f r) r).process ≡ r.process
  same_process true r = keeps r
  same_process false r = refl

  -- the row of the process is changed
  pub changed_own : (rows : List Row) → row_of (change_row p f rows) p ≡ option_map f (row_of rows p)
  changed_own [] = refl
  changed_own (r ∷ rows) =
      ap (λ q. cond (proc_eq q p) (Some (cond (proc_eq r.process p) (f r) r)) (row_of (change_row p f rows) p))
      (same_process (proc_eq r.process p) r)
      ∙ elim (proc_eq r.process p)
      as (λ b. cond b (Some (cond b (f r) r)) (row_of (change_row p f rows) p) ≡ option_map f (cond b (Some r) (row_of rows p))) [
        | true ↦ refl
        | false ↦ changed_own rows
      ]

  -- and no other
  pub changed_other : (q : Proc) → proc_eq p q ≡ false → (rows : List Row) → row_of (change_row p f rows) q ≡ row_of rows q
  changed_other q apart [] = refl
  changed_other q apart (r ∷ rows) =
      ap (λ s. cond (proc_eq s q) (Some (cond (proc_eq r.process p) (f r) r)) (row_of (change_row p f rows) q))
      (same_process (proc_eq r.process p) r)
      ∙ elim (cases_Bool (proc_eq r.process p)) [
        | inl own ↦
            let is : proc_eq r.process q ≡ false = ap (λ s. proc_eq s q) (same_proc r.process p own) ∙ apart in
            ap (λ b. cond b (Some (cond (proc_eq r.process p) (f r) r)) (row_of (change_row p f rows) q)) is
            ∙ changed_other q apart rows
            ∙ sym (ap (λ b. cond b (Some r) (row_of rows q)) is)
        | inr other ↦
            (λ i. cond (proc_eq r.process q) (Some (cond (other i) (f r) r)) (changed_other q apart rows i))
      ]

  -- a change of one row that fits the change of its process
  pub rows_changed : (gate : GroupNo → Gate) (processes : Proc → Process) (v : Process) (rows : List Row) (row : Row) →
      row_of rows p ≡ Some row → RowFits gate v (f row) → ((q : Proc) → StandsFor gate (processes q) (row_of rows q)) → (q : Proc) →
      StandsFor gate (set_process processes p v q) (row_of (change_row p f rows) q)
  rows_changed gate processes v rows row at fits all q = elim (cases_Bool (proc_eq p q)) [
    | inl same ↦
        let here : row_of (change_row p f rows) p ≡ Some (f row) = changed_own rows ∙ ap (λ (o : Option Row). option_map f o) at in
        let there : row_of (change_row p f rows) q ≡ Some (f row) =
        ap (λ x. row_of (change_row p f rows) x) (sym (same_proc p q same)) ∙ here in
        subst (λ o. StandsFor gate (set_process processes p v q) o) (sym there)
        (subst (λ x. RowFits gate x (f row)) (sym (ap (λ b. if b then v else processes q) same)) fits)
    | inr other ↦
        subst (λ o. StandsFor gate (set_process processes p v q) o) (sym (changed_other q other rows))
        (subst (λ x. StandsFor gate x (row_of rows q)) (sym (ap (λ b. if b then v else processes q) other)) (all q))
  ]

-- a new row tells of a process that is in no group and has not begun
new_row_fits : (gate : GroupNo → Gate) (v : Process) (p : Proc) → ((g : GroupNo) → v.standing g ≡ Outside) → HasNotBegun v →
    RowFits gate v (new_row p)
new_row_fits gate v p outside fresh = record {
  standing = λ g. sym (outside g);
  in_order = refl;
  time = sym fresh.time;
  counts = λ u stands. (
    λ has. absurd (false≢true (ap (λ us. is_among uid_eq u us) (sym fresh.delivered) ∙ has)),
    λ b. absurd (omega (arith, b.0, b.1)),
  );
}

-- a process that is admitted has a row then, and no other one changes
pub row_admitted : (gate : GroupNo → Gate) (processes : Proc → Process) (rows : List Row) (p : Proc) →
    (row_of rows p ≡ None → HasNotBegun (processes p)) → ((q : Proc) → StandsFor gate (processes q) (row_of rows q)) → (q : Proc) →
    StandsFor gate (processes q) (row_of (rows ++ new_row p ∷ []) q)
row_admitted gate processes rows p fresh all q = elim (option_cases (row_of rows q)) [
  | inl none ↦
      let outside : (g : GroupNo) → (processes q).standing g ≡ Outside = subst (λ o. StandsFor gate (processes q) o) none (all q) in
      subst (λ o. StandsFor gate (processes q) o) (sym (find-append_none (λ r. proc_eq r.process q) rows (new_row p ∷ []) none))
      (new_one none outside (proc_eq p q) refl)
  | inr (row, some) ↦
      subst (λ o. StandsFor gate (processes q) o) (sym (find-append_some (λ r. proc_eq r.process q) rows (new_row p ∷ []) row some))
      (subst (λ o. StandsFor gate (processes q) o) some (all q))
]
  where
    new_one : row_of rows q ≡ None → ((g : GroupNo) → (processes q).standing g ≡ Outside) → (b : Bool) → proc_eq p q ≡ b →
        StandsFor gate (processes q) (cond b (Some (new_row p)) None)
    new_one none outside true same =
        let is : p ≡ q = same_proc p q same in
        new_row_fits gate (processes q) p outside (subst (λ x. HasNotBegun (processes x)) is (fresh (ap (row_of rows) is ∙ none)))
    new_one none outside false other = outside

-- the row of a process that is in no group may go
pub row_dismissed : (gate : GroupNo → Gate) (processes : Proc → Process) (rows : List Row) (p : Proc) →
    ((g : GroupNo) → (processes p).standing g ≡ Outside) → ((q : Proc) → StandsFor gate (processes q) (row_of rows q)) → (q : Proc) →
    StandsFor gate (processes q) (row_of (but_row p rows) q)
row_dismissed gate processes rows p outside all q = elim (cases_Bool (proc_eq p q)) [
  | inl same ↦
      let is : p ≡ q = same_proc p q same in
      let none : row_of (but_row p rows) q ≡ None = ap (row_of (but_row p rows)) (sym is) ∙ find_dropped (λ r. proc_eq r.process p) rows in
      subst (λ o. StandsFor gate (processes q) o) (sym none) (subst (λ x. (g : GroupNo) → (processes x).standing g ≡ Outside) is outside)
  | inr other ↦
      subst (λ o. StandsFor gate (processes q) o) (sym (find_kept (λ r. proc_eq r.process q) (λ r. not (proc_eq r.process p)) (λ r out.
      ap (λ x. proc_eq x q) (same_proc r.process p (not-false (proc_eq r.process p) out)) ∙ other) rows)) (all q)
]

-- in later views of groups a row tells of fewer ids
pub stands_later : (gate later : GroupNo → Gate) → ((g : GroupNo) → (gate g).number ≤ (later g).number) → (v : Process) (o : Option Row) →
    StandsFor gate v o → StandsFor later v o
stands_later gate later rises v None outside = outside
stands_later gate later rises v (Some row) fits = record {
  standing = fits.standing;
  in_order = fits.in_order;
  time = fits.time;
  counts = λ u stands. fits.counts u (let rise = rises u.group in omega (arith, rise, stands));
}

-- what is counted of a view that has not ended is counted still
pub count_kept : (g : GroupNo) (number : ℕ) (s : Source) → is_ended g number s ≡ false → (tally : DeliveredCounts) →
    count_at (but_ended g number tally) s ≡ count_at tally s
count_kept g number s stands tally =
    ap (λ (o : Option ℕ). unwrap_or o 0) (find_but_ended g number s stands tally)

-- a source of a view that has not ended
pub not_ended : (gate : GroupNo → Gate) (g : GroupNo) (number : ℕ) → number ≤ (gate g).number → (u : Uid) →
    HasNotEnded gate u.group u.view → is_ended g number (source u.group u.view u.proc) ≡ false
not_ended gate g number reached u stands = elim (cases_Bool (group_eq u.group g)) [
  | inl same ↦
      let is : u.group ≡ g = same_group u.group g same in
      let here : (gate u.group).number ≡ (gate g).number = ap (λ h. (gate h).number) is in
      ap (λ b. b && nat_lt u.view number) same ∙ le-ltb u.view number (omega (arith, reached, here, stands))
  | inr other ↦ ap (λ b. b && nat_lt u.view number) other
]

-- a row that has forgotten a group's earlier views tells of its process as before
pub row_ended : (gate : GroupNo → Gate) (v : Process) (g : GroupNo) (number : ℕ) → number ≤ (gate g).number → (o : Option Row) →
    StandsFor gate v o → StandsFor gate v (option_map (ended_row g number) o)
row_ended gate v g number reached None outside = outside
row_ended gate v g number reached (Some row) fits = record {
  standing = fits.standing;
  in_order = fits.in_order;
  time = fits.time;
  counts = λ u stands. subst (λ n. (has_delivered v u ≡ true) ↔ ((0 < u.count) × (u.count ≤ n)))
      (sym (count_kept g number (source u.group u.view u.proc) (not_ended gate g number reached u stands) row.done)) (fits.counts u stands);
}

pub row_of_ended : (g : GroupNo) (number : ℕ) (rows : List Row) (p : Proc) →
    row_of (map (ended_row g number) rows) p ≡ option_map (ended_row g number) (row_of rows p)
row_of_ended g number rows p = find_mapped (ended_row g number) (λ r. proc_eq r.process p) rows

-- and the rows are there, and are those of the same processes
pub row_of_some : (g : GroupNo) (number : ℕ) (rows : List Row) (p : Proc) → IsSome (row_of rows p) →
    IsSome (row_of (map (ended_row g number) rows) p)
row_of_some g number rows p was = ap is_some (row_of_ended g number rows p) ∙ same (row_of rows p) ∙ was
  where
    same : (o : Option Row) → is_some (option_map (ended_row g number) o) ≡ is_some o
    same None = refl
    same (Some row) = refl

pub names_ended : (g : GroupNo) (number : ℕ) (rows : List Row) →
    map (λ row. row.process) (map (ended_row g number) rows) ≡ map (λ row. row.process) rows
names_ended g number [] = refl
names_ended g number (row ∷ rows) = ap (λ ps. row.process ∷ ps) (names_ended g number rows)
