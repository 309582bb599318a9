-- What is kept of each process, where that of one is changed, added or forgotten.
use Rattle.std.proofs.Common.{◌≡◌, ℕ, zero, suc, ◌≤◌, Bool, true, false, cond, not, List, [], ◌∷◌, ◌++◌, length, take, get_or}
use Rattle.std.proofs.Common.{set, filter, Contains, Option, Some, None, Ok, Err, sym, ap, subst, ◌∙◌, inl, inr, arith}
use Rattle.std.specs.Prelude.{nat_lt, slice_get, Result, OnOk, OnErr}
use Rattle.std.specs.List.{position, position_or_len}
use Rattle.std.proofs.lemmas.Bool.{cases_Bool, not-false, ltb-false}
use Rattle.std.proofs.lemmas.Option.{cond_some, slice_get-get_or, slice_get_past, same_Some}
use Rattle.std.proofs.lemmas.List.Folds.{find_at, find-set, find_past}
use Rattle.std.proofs.lemmas.List.Quantifiers.{position-Some}
use Rattle.cast_types.specs.declared.names.GroupNo.{GroupNo}
use Rattle.cast_types.specs.declared.names.Proc.{Proc}
use Rattle.cast_types.specs.declared.names.Key.{Key}
use Rattle.cast_types.specs.declared.names.Uid.{Uid}
use Rattle.cast_types.specs.Names.{proc_eq}
use Rattle.cast_types.proofs.Orders.{same_proc, proc_itself}
use Rattle.cast_types.proofs.Contains.{contains_here, contains_later}
use Rattle.cast_clock.proofs.Entries.{option_cases}
use Rattle.cast_index.specs.Rises.{rises}
use Rattle.cast_ready.specs.declared.gate.Gate.{Gate}
use Rattle.cast_ready.specs.declared.row.Row.{Row}
use Rattle.cast_ready.specs.declared.offered.Offered.{Offered}
use Rattle.cast_delay.specs.declared.looked.Looked.{Looked}
use Rattle.cast_delay.specs.Queue.{row_of}
use Rattle.cast_delay.specs.Offers.{key_of}
use Rattle.cast_delay.specs.Waits.{looked_of, IsKnown, IsWithin, IsLookedAt, AreKnown, AreLookedAt, AreSeen, AreToWake}
use Rattle.cast_delay.proofs.ListLemmas.{contains_cases}
use Rattle.cast_delay.proofs.Finds.{find-append_some, find-append_none, find_dropped, find_kept}

-- Places

abbrev is_of : Proc → Looked → Bool
is_of p l = proc_eq l.process p

past : (at len : ℕ) → cond {A = Option ℕ} (nat_lt at len) (Some at) None ≡ None → len ≤ at
past at len none = elim (cases_Bool (nat_lt at len)) [
  | inl passes ↦ absurd (cc (ap (λ b. cond {A = Option ℕ} b (Some at) None) passes))
  | inr fails ↦ ltb-false at len fails
]

pub entry_none : (ls : List Looked) (p : Proc) → position (is_of p) ls ≡ None → looked_of ls p ≡ None
entry_none ls p none =
    find_at (is_of p) ls ∙ slice_get_past ls (position_or_len (is_of p) ls) (past (position_or_len (is_of p) ls) (length ls) none)

module _ (ls : List Looked) (p : Proc) (i : ℕ) (at : position (is_of p) ls ≡ Some i) where
  place : (nat_lt (position_or_len (is_of p) ls) (length ls) ≡ true) × (position_or_len (is_of p) ls ≡ i)
  place = cond_some (nat_lt (position_or_len (is_of p) ls) (length ls)) (position_or_len (is_of p) ls) i at

  pub entry_at : (d : Looked) → looked_of ls p ≡ Some (get_or ls i d)
  entry_at d = find_at (is_of p) ls ∙ ap (slice_get ls) place.1 ∙ slice_get-get_or ls i d (position-Some (is_of p) ls i d at).0

  pub process_at : (d : Looked) → (get_or ls i d).process ≡ p
  process_at d = same_proc (get_or ls i d).process p (position-Some (is_of p) ls i d at).1

  module _ (v : Looked) (process : v.process ≡ p) where
    set_own : looked_of (set ls i v) p ≡ Some v
    set_own = find-set (is_of p) ls i v (sym place.1) (position-Some (is_of p) ls i v at).0 (ap (λ q. proc_eq q p) process ∙ proc_itself p)

    pub set_other : (q : Proc) → proc_eq p q ≡ false → looked_of (set ls i v) q ≡ looked_of ls q
    set_other q apart = find_past (is_of q) ls i v v (ap (λ r. proc_eq r q) (process_at v) ∙ apart) (ap (λ r. proc_eq r q) process ∙ apart)

    pub set_looked : (gates : List (GroupNo × Gate)) (rows : List Row) (offered : List Offered) →
        ((q : Proc) (l : Looked) → proc_eq p q ≡ false → looked_of ls q ≡ Some l → IsLookedAt gates (row_of rows q) offered l) →
        IsLookedAt gates (row_of rows p) offered v → AreLookedAt gates rows offered (set ls i v)
    set_looked gates rows offered others own q l is = elim (cases_Bool (proc_eq p q)) [
      | inl same ↦
          let here : looked_of (set ls i v) q ≡ Some v = ap (λ r. looked_of (set ls i v) r) (sym (same_proc p q same)) ∙ set_own in
          let is_v : v ≡ l = same_Some v l (sym here ∙ is) in
          subst (λ m. IsLookedAt gates (row_of rows q) offered m)
          is_v (subst (λ r. IsLookedAt gates (row_of rows r) offered v) (same_proc p q same) own)
      | inr apart ↦ others q l apart (sym (set_other q apart) ∙ is)
    ]

-- nothing is kept of a process any more
module _ (gates : List (GroupNo × Gate)) (rows : List Row) (offered : List Offered) (ls : List Looked) (p : Proc) where
  abbrev rest : List Looked
  rest = filter (λ l. not (is_of p l)) ls

  pub rest_own : looked_of rest p ≡ None
  rest_own = find_dropped (is_of p) ls

  pub rest_other : (q : Proc) → proc_eq p q ≡ false → looked_of rest q ≡ looked_of ls q
  rest_other q apart =
      find_kept (is_of q) (λ l. not (is_of p l))
      (λ l own. ap (λ r. proc_eq r q) (same_proc l.process p (not-false (is_of p l) own)) ∙ apart) ls

  pub rest_looked : ((q : Proc) (l : Looked) → proc_eq p q ≡ false → looked_of ls q ≡ Some l → IsLookedAt gates (row_of rows q) offered l) →
      AreLookedAt gates rows offered rest
  rest_looked others q l is = elim (cases_Bool (proc_eq p q)) [
    | inl same ↦ absurd (cc (sym is ∙ ap (λ r. looked_of rest r) (sym (same_proc p q same)) ∙ rest_own))
    | inr apart ↦ others q l apart (sym (rest_other q apart) ∙ is)
  ]

-- one more is kept
pub push_looked : (gates : List (GroupNo × Gate)) (rows : List Row) (offered : List Offered) (ls : List Looked) (v : Looked) →
    AreLookedAt gates rows offered ls → IsLookedAt gates (row_of rows v.process) offered v → AreLookedAt gates rows offered (ls ++ v ∷ [])
push_looked gates rows offered ls v all own q l is = elim (option_cases (looked_of ls q)) [
  | inr (m, was) ↦ all q l (was ∙ sym (find-append_some (is_of q) ls (v ∷ []) m was) ∙ is)
  | inl none ↦
      let last : cond {A = Option Looked} (is_of q v) (Some v) None ≡ Some l = sym (find-append_none (is_of q) ls (v ∷ []) none) ∙ is in
      let parts = cond_some (is_of q v) v l last in
      subst (λ r. IsLookedAt gates (row_of rows r) offered l) (same_proc v.process q parts.0)
      (subst (λ m. IsLookedAt gates (row_of rows v.process) offered m) parts.1 own)
]

-- what was seen of a process is known, by what is kept of it
module _ (gates : List (GroupNo × Gate)) (rows : List Row) (offered : List Offered) (ls : List Looked) (p : Proc) (n : ℕ)
    (seen : AreSeen gates rows offered ls p n) (row : Row) (at : row_of rows p ≡ Some row) where
  pub seen_known : AreLookedAt gates rows offered ls → (l : Looked) → looked_of ls p ≡ Some l → (o : Offered) →
      Contains (take n offered) o → Contains offered o → IsKnown gates row l o
  seen_known all l kept o there within = elim (seen row at o there) [
    | inl past ↦ inr (inl past)
    | inr (m, is, lt) ↦
        let same : m ≡ l = same_Some m l (sym is ∙ kept) in
        ((all p l kept).known row at).each o within (omega (arith, lt, ap (λ (x : Looked). x.below) same))
  ]

  pub seen_none : looked_of ls p ≡ None → (l : Looked) (o : Offered) → Contains (take n offered) o → IsKnown gates row l o
  seen_none none l o there = elim (seen row at o there) [
    | inl past ↦ inr (inl past)
    | inr (m, is, lt) ↦ absurd (cc (sym none ∙ is))
  ]

-- what is known of the row of a process
pub looked_row : (gates : List (GroupNo × Gate)) (rows : List Row) (offered : List Offered) (p : Proc) (row : Row) (l : Looked) →
    row_of rows p ≡ Some row → rises key_of offered ≡ true → AreKnown gates row offered l → IsLookedAt gates (row_of rows p) offered l
looked_row gates rows offered p row l at rising known = record {
  rising = rising;
  within = known.within;
  known = λ r is. subst (λ x. AreKnown gates x offered l) (same_Some row r (sym at ∙ is)) known;
}

-- a process that has no row takes nothing
pub looked_none : (gates : List (GroupNo × Gate)) (rows : List Row) (offered : List Offered) (p : Proc) (l : Looked) →
    row_of rows p ≡ None → rises key_of offered ≡ true → IsWithin l → IsLookedAt gates (row_of rows p) offered l
looked_none gates rows offered p l none rising within =
    record { rising = rising; within = within; known = λ r is. absurd (cc (sym none ∙ is)) }

-- a first entry for a process, where there is memory for it
pub first_looked : {E : Type 0} (gates : List (GroupNo × Gate)) (rows : List Row) (offered : List Offered) (old new : List Looked)
    (p : Proc) (row : Row) → row_of rows p ≡ Some row → rises key_of offered ≡ true → AreLookedAt gates rows offered old →
    (r : Result (Unit {0}) E) → OnOk r ((l : Looked) × (new ≡ old ++ l ∷ []) × (l.process ≡ p) × AreKnown gates row offered l) →
    OnErr r (new ≡ old) → AreLookedAt gates rows offered new
first_looked gates rows offered old new p row at rising all (Ok u) (l, is, process, known) same =
    subst (λ ls. AreLookedAt gates rows offered ls) (sym is)
    (push_looked gates rows offered old l all
    (looked_row gates rows offered l.process row l (ap (λ q. row_of rows q) process ∙ at) rising known))
first_looked gates rows offered old new p row at rising all (Err e) more same =
    subst (λ ls. AreLookedAt gates rows offered ls) (sym same) all

-- where nothing is kept of the process that took a message, or it has no row, nothing wakes
module _ (gates : List (GroupNo × Gate)) (rows : List Row) (offered : List Offered) (p : Proc) (id : Uid) (key : Key) (ls : List Looked)
    (todo : AreToWake gates rows offered p id key ls) where
  pub own_none : looked_of ls p ≡ None → AreLookedAt gates rows offered ls
  own_none none q l is = elim (cases_Bool (proc_eq p q)) [
    | inl same ↦ absurd (cc (sym none ∙ ap (λ r. looked_of ls r) (same_proc p q same) ∙ is))
    | inr apart ↦ todo.others q l apart is
  ]

  pub row_none : row_of rows p ≡ None → AreLookedAt gates rows offered ls
  row_none none q l is = elim (cases_Bool (proc_eq p q)) [
    | inl same ↦
        let own : looked_of ls p ≡ Some l = ap (λ r. looked_of ls r) (same_proc p q same) ∙ is in
        looked_none gates rows offered q l (ap (λ r. row_of rows r) (sym (same_proc p q same)) ∙ none) (todo.own l own).0 (todo.own l own).1
    | inr apart ↦ todo.others q l apart is
  ]

pub first_there : {A : Type 0} (xs : List A) (n : ℕ) (x : A) → Contains (take n xs) x → Contains xs x
first_there xs zero x there = absurd (none_there there)
  where
    none_there : Contains (take 0 xs) x → ⊥
    none_there in_it = omega (arith, in_it.1)
first_there [] (suc n) x there = there
first_there (y ∷ ys) (suc n) x there = elim (contains_cases y x (take n ys) there) [
  | inl here ↦ subst (λ z. Contains (y ∷ ys) z) here (contains_here y ys)
  | inr later ↦ contains_later x y ys (first_there ys n x later)
]
