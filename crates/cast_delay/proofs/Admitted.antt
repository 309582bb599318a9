-- Rows that rise by their processes: one is found by halving, and they rise still once some are changed, added or taken out.
use Rattle.std.proofs.Common.{◌≡◌, ℕ, zero, suc, ◌<◌, ◌≤◌, Bool, true, false, cond, List, [], ◌∷◌, ◌++◌, length, map, get_or, slice_set}
use Rattle.std.proofs.Common.{Option, Some, None, Ok, Err, Ordering, Less, Equal, Greater, refl, sym, ap, subst, ◌∙◌, inl, inr, arith}
use Rattle.std.specs.Prelude.{◌&&◌, ◌==◌, not, nat_lt, unwrap_or, if◌then◌else◌}
use Rattle.std.specs.List.{list_all, find}
use Rattle.std.specs.List.Sorted.{IsBinarySearchResult, IsNonDecreasingBy}
use Rattle.std.specs.Ordering.{is_lt, ordering_index}
use Rattle.std.specs.Option.{option_map_or, option_and_then}
use Rattle.std.proofs.lemmas.Bool.{cases_Bool, cases_eq, eqb-true, and_parts, not-true}
use Rattle.std.proofs.lemmas.Bool.{and_from, false≢true, true≢false, false_from_ne_true}
use Rattle.std.proofs.lemmas.Option.{none-some}
use Rattle.std.proofs.lemmas.Cmp.{tied_itself}
use Rattle.std.proofs.lemmas.List.{take_all}
use Rattle.std.proofs.lemmas.List.Folds.{list_all_at}
use Rattle.std.specs.FinMap.Entries as entries
use Rattle.cast_types.specs.declared.names.GroupNo.{GroupNo}
use Rattle.cast_types.specs.declared.names.Proc.{Proc}
use Rattle.cast_types.specs.declared.names.Key.{Key}
use Rattle.cast_types.specs.declared.names.Standing.{Standing}
use Rattle.cast_types.specs.declared.names.Standing.TheVariants.{Outside}
use Rattle.cast_types.specs.Names.{entry_of, group_cmp, proc_cmp, proc_eq}
use Rattle.cast_types.proofs.Orders.{proc_total, proc_exact, proc_itself, same_proc}
use Rattle.cast_types.proofs.Rising.{less_is}
use Rattle.cast_clock.proofs.Halving.{lower}
use Rattle.cast_clock.specs.Times.{has_room, join}
use Rattle.cast_ready.specs.declared.gate.Gate.{Gate}
use Rattle.cast_ready.specs.declared.row.Row.{Row}
use Rattle.cast_ready.specs.declared.row.ProcessUpdate.{ProcessUpdate}
use Rattle.cast_ready.specs.declared.row.ProcessUpdate.TheVariants as fact
use Rattle.cast_ready.specs.declared.offered.Offered.{Offered}
use Rattle.cast_ready.specs.Ready.{is_member, is_open_to}
use Rattle.cast_ready.specs.Rows.{all_allow, delivered_row, done_in, gate_in, is_causally_ready_row, standing_in, told_row}
use Rattle.cast_delay.specs.Queue.{Queue, after_delivery, candidate_for, candidate_in, change_row, offered_under, row_of}
use Rattle.cast_delay.specs.Settled.{AreSettled}
use Rattle.cast_delay.specs.Admitted.{rise, all_below, is_idle}
use Rattle.cast_delay.proofs.Settled.{none_settled_ready}

-- Names that compare alike are one, and others are not

eq_of : (p q : Proc) → proc_cmp p q ≡ Equal → proc_eq p q ≡ true
eq_of p q same = subst (λ x. proc_eq p x ≡ true) (proc_exact p q same) (proc_itself p)

not_eq : (p q : Proc) (o : Ordering) → proc_cmp p q ≡ o → (o ≡ Equal → false ≡ true) → proc_eq p q ≡ false
not_eq p q o is other = elim (cases_Bool (proc_eq p q)) [
  | inl same ↦ absurd (false≢true (other (sym is ∙ ap (proc_cmp p) (sym (same_proc p q same)) ∙ tied_itself proc_total p)))
  | inr differ ↦ differ
]

-- Two places

above_at : (p : Proc) (rows : List Row) (i : ℕ) (d : Row) → list_all (λ r. is_lt (proc_cmp p r.process)) rows ≡ true → i < length rows →
    proc_cmp p (get_or rows i d).process ≡ Less
above_at p rows i d all within = elim (cases_Bool (is_lt (proc_cmp p (get_or rows i d).process))) [
  | inl less ↦ less_is (proc_cmp p (get_or rows i d).process) less
  | inr not_so ↦ absurd (true≢false (sym all ∙ list_all_at (λ (r : Row). is_lt (proc_cmp p r.process)) rows i d within not_so))
]

parts_of : (x : Row) (rows : List Row) → rise (x ∷ rows) ≡ true →
    (list_all (λ r. is_lt (proc_cmp x.process r.process)) rows ≡ true) × (rise rows ≡ true)
parts_of x rows up = and_parts (list_all (λ r. is_lt (proc_cmp x.process r.process)) rows) (rise rows) up

at_two : (rows : List Row) (i j : ℕ) (d : Row) → rise rows ≡ true → i < j → j < length rows →
    proc_cmp (get_or rows i d).process (get_or rows j d).process ≡ Less
at_two [] i j d up lt within = absurd (omega arith)
at_two (x ∷ rows) i zero d up lt within = absurd (omega arith)
at_two (x ∷ rows) zero (suc j) d up lt within = above_at x.process rows j d (parts_of x rows up).0 (omega arith)
at_two (x ∷ rows) (suc i) (suc j) d up lt within = at_two rows i j d (parts_of x rows up).1 (omega arith) (omega arith)

module _ (p : Proc) where
  comparisons_rise : (rows : List Row) → rise rows ≡ true → IsNonDecreasingBy (λ r. ordering_index (proc_cmp r.process p)) rows
  comparisons_rise rows up i j d le within = elim (cases_eq i j) [
    | inl same ↦ omega (arith, ap (λ n. ordering_index (proc_cmp (get_or rows n d).process p)) same)
    | inr differ ↦
        lower proc_cmp proc_total (get_or rows i d).process (get_or rows j d).process p (at_two rows i j d up (omega arith) within)
        (proc_cmp (get_or rows j d).process p) refl
  ]

  -- the row at a place is found, where it is of the process
  pub found_at : (rows : List Row) (i : ℕ) (d : Row) → rise rows ≡ true → i < length rows → proc_eq (get_or rows i d).process p ≡ true →
      row_of rows p ≡ Some (get_or rows i d)
  found_at [] i d up within same = absurd (omega arith)
  found_at (x ∷ rows) zero d up within same = ap (λ b. cond b (Some x) (row_of rows p)) same
  found_at (x ∷ rows) (suc i) d up within same =
      let parts = parts_of x rows up in
      let there : (get_or rows i d).process ≡ p = same_proc (get_or rows i d).process p same in
      let less : proc_cmp x.process p ≡ Less = ap (proc_cmp x.process) (sym there) ∙ above_at x.process rows i d parts.0 (omega arith) in
      ap (λ b. cond b (Some x) (row_of rows p)) (not_eq x.process p Less less (λ e. cc e))
      ∙ found_at rows i d parts.1 (omega arith) same

  pub search_found : (rows : List Row) (i : ℕ) (d : Row) → rise rows ≡ true → i < length rows →
      IsBinarySearchResult (λ r. proc_cmp r.process p) rows (Ok i) → row_of rows p ≡ Some (get_or rows i d)
  search_found rows i d up within is = found_at rows i d up within (eq_of (get_or rows i d).process p (is d))

  absent : (rows : List Row) (i : ℕ) → ((j : ℕ) (d : Row) → j < i → j < length rows → proc_cmp (get_or rows j d).process p ≡ Less) →
      ((j : ℕ) (d : Row) → i ≤ j → j < length rows → proc_cmp (get_or rows j d).process p ≡ Greater) → row_of rows p ≡ None
  absent [] i less more = refl
  absent (x ∷ rows) zero less more =
      ap (λ b. cond b (Some x) (row_of rows p)) (not_eq x.process p Greater (more 0 x (omega arith) (omega arith)) (λ e. cc e))
      ∙ absent rows zero (λ j d lt. absurd (omega (arith, lt))) (λ j d le lt. more (suc j) d (omega arith) (omega (arith, lt)))
  absent (x ∷ rows) (suc i) less more =
      ap (λ b. cond b (Some x) (row_of rows p)) (not_eq x.process p Less (less 0 x (omega arith) (omega arith)) (λ e. cc e))
      ∙ absent rows i (λ j d lt within. less (suc j) d (omega (arith, lt)) (omega (arith, within)))
      (λ j d le lt. more (suc j) d (omega (arith, le)) (omega (arith, lt)))

  pub search_absent : (rows : List Row) (i : ℕ) → rise rows ≡ true → IsBinarySearchResult (λ r. proc_cmp r.process p) rows (Err i) →
      row_of rows p ≡ None
  search_absent rows i up parted =
      let parts = parted (comparisons_rise rows up) in
      absent rows i (λ j d lt within. parts.0 j d (omega arith) lt) parts.1

  -- The row of the process alone is changed

  -- none is, where there is none
  pub none_changed : (f : Row → Row) (rows : List Row) → row_of rows p ≡ None → change_row p f rows ≡ rows
  none_changed f [] none = refl
  none_changed f (x ∷ rows) none = elim (cases_Bool (proc_eq x.process p)) [
    | inl same ↦ absurd (none-some x (sym none ∙ ap (λ b. cond b (Some x) (row_of rows p)) same))
    | inr differ ↦
        ap (λ b. cond b (f x) x ∷ change_row p f rows) differ
        ∙ ap (λ rest. x ∷ rest) (none_changed f rows (sym (ap (λ b. cond b (Some x) (row_of rows p)) differ) ∙ none))
  ]

  beyond : (rows : List Row) → list_all (λ r. is_lt (proc_cmp p r.process)) rows ≡ true → row_of rows p ≡ None
  beyond [] all = refl
  beyond (x ∷ rows) all =
      let parts = and_parts (is_lt (proc_cmp p x.process)) (list_all (λ r. is_lt (proc_cmp p r.process)) rows) all in
      let differ : proc_eq x.process p ≡ false = false_from_ne_true (proc_eq x.process p) (λ same.
      false≢true (sym (ap is_lt (ap (proc_cmp p) (same_proc x.process p same) ∙ tied_itself proc_total p)) ∙ parts.0)) in
      ap (λ b. cond b (Some x) (row_of rows p)) differ ∙ beyond rows parts.1

  changed_at : (f : Row → Row) (rows : List Row) (i : ℕ) (d : Row) → rise rows ≡ true → i < length rows →
      proc_eq (get_or rows i d).process p ≡ true → change_row p f rows ≡ slice_set rows i (f (get_or rows i d))
  changed_at f [] i d up within same = absurd (omega arith)
  changed_at f (x ∷ rows) zero d up within same =
      let none : row_of rows p ≡ None =
      beyond rows
      (subst (λ q. list_all (λ r. is_lt (proc_cmp q r.process)) rows ≡ true) (same_proc x.process p same) (parts_of x rows up).0) in
      λ j. cond (same j) (f x) x ∷ none_changed f rows none j
  changed_at f (x ∷ rows) (suc i) d up within same =
      let parts = parts_of x rows up in
      let there : (get_or rows i d).process ≡ p = same_proc (get_or rows i d).process p same in
      let less : proc_cmp x.process p ≡ Less = ap (proc_cmp x.process) (sym there) ∙ above_at x.process rows i d parts.0 (omega arith) in
      let later = changed_at f rows i d parts.1 (omega arith) same in
      λ j. cond (not_eq x.process p Less less (λ e. cc e) j) (f x) x ∷ later j

  pub search_changed : (f : Row → Row) (rows : List Row) (i : ℕ) (d : Row) → rise rows ≡ true → i < length rows →
      IsBinarySearchResult (λ r. proc_cmp r.process p) rows (Ok i) → change_row p f rows ≡ slice_set rows i (f (get_or rows i d))
  search_changed f rows i d up within is = changed_at f rows i d up within (eq_of (get_or rows i d).process p (is d))

-- Changes

-- one more, above all
below_more : (x : Row) (p : Proc) (y : Row) (rows : List Row) → y.process ≡ p → proc_cmp x.process p ≡ Less →
    list_all (λ r. is_lt (proc_cmp x.process r.process)) rows ≡ true →
    list_all (λ r. is_lt (proc_cmp x.process r.process)) (rows ++ y ∷ []) ≡ true
below_more x p y [] is less all =
    and_from (is_lt (proc_cmp x.process y.process)) true (ap (λ q. is_lt (proc_cmp x.process q)) is ∙ ap is_lt less) refl
below_more x p y (z ∷ rows) is less all =
    let parts = and_parts (is_lt (proc_cmp x.process z.process)) (list_all (λ r. is_lt (proc_cmp x.process r.process)) rows) all in
    and_from (is_lt (proc_cmp x.process z.process)) (list_all (λ r. is_lt (proc_cmp x.process r.process)) (rows ++ y ∷ []))
    parts.0 (below_more x p y rows is less parts.1)

pub rise_more : (y : Row) (rows : List Row) → rise rows ≡ true → all_below y.process rows ≡ true → rise (rows ++ y ∷ []) ≡ true
rise_more y [] up below = refl
rise_more y (x ∷ rows) up below =
    let parts = parts_of x rows up in
    let lows = and_parts (is_lt (proc_cmp x.process y.process)) (all_below y.process rows) below in
    and_from (list_all (λ r. is_lt (proc_cmp x.process r.process)) (rows ++ y ∷ [])) (rise (rows ++ y ∷ []))
    (below_more x y.process y rows refl (less_is (proc_cmp x.process y.process) lows.0) parts.0)
    (rise_more y rows parts.1 lows.1)

-- each changed, but for its process
module _ (f : Row → Row) (same : (r : Row) → (f r).process ≡ r.process) where
  below_each : (p : Proc) (rows : List Row) →
      list_all (λ r. is_lt (proc_cmp p r.process)) (map f rows) ≡ list_all (λ r. is_lt (proc_cmp p r.process)) rows
  below_each p [] = refl
  below_each p (x ∷ rows) = λ i. is_lt (proc_cmp p (same x i)) && below_each p rows i

  pub rise_each : (rows : List Row) → rise (map f rows) ≡ rise rows
  rise_each [] = refl
  rise_each (x ∷ rows) =
      (λ i. list_all (λ r. is_lt (proc_cmp (same x i) r.process)) (map f rows) && rise (map f rows))
      ∙ (λ i. below_each x.process rows i && rise_each rows i)

-- the rows of one process changed, but for the process
pub rise_changed : (f : Row → Row) → ((r : Row) → (f r).process ≡ r.process) → (p : Proc) (rows : List Row) →
    rise (change_row p f rows) ≡ rise rows
rise_changed f same p rows =
    rise_each (λ r. if proc_eq r.process p then f r else r)
    (λ r. elim (proc_eq r.process p) as (λ b. (if b then f r else r).process ≡ r.process) [ true ↦ same r | false ↦ refl ]) rows

pub told_process : (fact : ProcessUpdate) (r : Row) → (told_row fact r).process ≡ r.process
told_process (fact.Standing g standing) r = refl
told_process (fact.Time time) r = refl

pub rise_delivered : (offered : List Offered) (p : Proc) (key : Key) (rows : List Row) →
    rise (after_delivery offered p key rows) ≡ rise rows
rise_delivered offered p key rows =
    elim (offered_under offered key)
    as (λ o. rise (elim o [ Some x ↦ change_row p (delivered_row x.id x.times) rows | None ↦ rows ]) ≡ rise rows) [
      | Some x ↦ rise_changed (delivered_row x.id x.times) (λ r. refl) p rows
      | None ↦ refl
    ]

-- A process that was told nothing

pub none_at : (row : Row) (g : GroupNo) → (length row.standings == 0) ≡ true → standing_in row g ≡ Outside
none_at row g none = ap (λ es. unwrap_or (entries.find group_cmp g es) Outside) (no_entries row.standings none)
  where
    no_entries : (es : List (GroupNo × Standing)) → (length es == 0) ≡ true → es ≡ []
    no_entries [] is = refl
    no_entries (e ∷ es) is = absurd (omega (arith, eqb-true (length (e ∷ es)) 0 is))

-- takes no message
none_ready : (gates : List (GroupNo × Gate)) (row : Row) → (length row.standings == 0) ≡ true → (offered : List Offered) →
    candidate_for gates offered row ≡ None
none_ready gates row none [] = refl
none_ready gates row none (o ∷ offered) =
    ap (λ b. cond (b
    && ((o.id.view == (gate_in gates o.id.group).number)
    && (is_open_to (gate_in gates o.id.group) (entry_of o.id)
    && (nat_lt (done_in row o.id.group o.id.view o.id.proc) o.id.count
    && (all_allow gates row o.id o.times
    && has_room (join row.time o.times)))))) (Some o) (candidate_for gates offered row)) (ap is_member (none_at row o.id.group none))
    ∙ none_ready gates row none offered

pub idle_may_not : (q : Queue) (p : Proc) → is_idle q.rows p ≡ true → candidate_in q p ≡ None
idle_may_not q p idle = at (row_of q.rows p) idle
  where
    at : (o : Option Row) → option_map_or (λ r. length r.standings == 0) o false ≡ true →
        option_and_then (candidate_for q.gates q.offered) o ≡ None
    at None is = refl
    at (Some row) is = none_ready q.gates row is q.offered

-- Where each message is settled, none is ready for a process
none_passes : (f : Offered → Bool) (offered : List Offered) → list_all (λ o. not (f o)) offered ≡ true → find f offered ≡ None
none_passes f [] all = refl
none_passes f (o ∷ offered) all =
    let parts = and_parts (not (f o)) (list_all (λ x. not (f x)) offered) all in
    ap (λ b. cond b (Some o) (find f offered)) (not-true (f o) parts.0) ∙ none_passes f offered parts.1

pub settled_may_not : (q : Queue) (n : ℕ) (p : Proc) → AreSettled q.gates q.rows q.offered n → length q.offered ≤ n →
    candidate_in q p ≡ None
settled_may_not q n p settled all = at (row_of q.rows p) refl
  where
    at : (o : Option Row) → row_of q.rows p ≡ o → option_and_then (candidate_for q.gates q.offered) o ≡ None
    at None is = refl
    at (Some row) is =
        none_passes (λ o. is_causally_ready_row q.gates row o.id o.times) q.offered
        (ap (list_all (λ o. not (is_causally_ready_row q.gates row o.id o.times))) (sym (take_all n q.offered all))
        ∙ none_settled_ready q.gates q.rows p row is q.offered n settled)
