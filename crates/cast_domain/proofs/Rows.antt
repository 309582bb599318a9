-- The rows of a domain's queue are those of serials that were given, in their order.
use Rattle.std.proofs.Common.{◌≡◌, ℕ, zero, suc, ◌+◌, ◌<◌, ◌≤◌, Bool, true, false, cond, List, []}
use Rattle.std.proofs.Common.{◌∷◌, map, filter, Some, None, refl, sym, ap, ◌∙◌, inl, inr, arith}
use Rattle.std.specs.Prelude.{◌==◌, nat_lt, nat_le, is_some}
use Rattle.std.specs.List.{range_with_len}
use Rattle.std.specs.Option.{IsSome}
use Rattle.std.proofs.lemmas.Bool.{cases_Bool, and_parts, and_from, lt-ltb, le-leb, eqb-true, false_from_ne_true, false≢true}
use Rattle.std.proofs.lemmas.Option.{none-some}
use Rattle.cast_types.specs.declared.names.Proc.{Proc}
use Rattle.cast_types.specs.Names.{site_eq, proc_eq}
use Rattle.cast_types.proofs.Orders.{proc_itself}
use Rattle.cast_ready.specs.declared.row.Row.{Row}
use Rattle.cast_delay.specs.Queue.{row_of}
use Rattle.cast_rules.specs.State.{State, local, was_given}
use Rattle.cast_rules.proofs.Totals.{In}

abbrev pub names_of : List Row → List Proc
names_of rows = map (λ row. row.process) rows

pub serial_of : (s : State) (a b : ℕ) → local s a ≡ local s b → a ≡ b
serial_of s a b same = ap (λ (p : Proc). p.serial) same

-- a row is no row of another serial
other_name : (s : State) (row : Row) (a k : ℕ) → row.process ≡ local s a → (a ≡ k → ⊥) → proc_eq row.process (local s k) ≡ false
other_name s row a k is apart =
    ap (λ p. proc_eq p (local s k)) is
    ∙ false_from_ne_true (proc_eq (local s a) (local s k))
    (λ same. apart (eqb-true a k (and_parts (site_eq s.here s.here) (a == k) same).1))

-- Serials in order

-- the serials rise, from one on
abbrev pub Rise : ℕ → List ℕ → Type 0
Rise a [] = Unit {0}
Rise a (k ∷ ks) = (a ≤ k) × Rise (k + 1) ks

rise_before : (a b : ℕ) (ks : List ℕ) → a ≤ b → Rise b ks → Rise a ks
rise_before a b [] within rises = tt
rise_before a b (k ∷ ks) within rises = (omega (arith, rises.0), rises.1)

-- those of a range that pass a test
pub rise_filter : (test : ℕ → Bool) (a n : ℕ) → Rise a (filter test (range_with_len a n))
rise_filter test a zero = tt
rise_filter test a (suc n) =
    elim (test a) as (λ b. Rise a (cond b (a ∷ filter test (range_with_len (a + 1) n)) (filter test (range_with_len (a + 1) n)))) [
      | true ↦ (omega arith, rise_filter test (a + 1) n)
      | false ↦ rise_before a (a + 1) (filter test (range_with_len (a + 1) n)) (omega arith) (rise_filter test (a + 1) n)
    ]

-- what is in a range is within it
pub in_range : (a n k : ℕ) → In k (range_with_len a n) → (a ≤ k) × (k < a + n)
in_range a zero k at = absurd at
in_range a (suc n) k (inl here) = (omega (arith, here), omega (arith, here))
in_range a (suc n) k (inr later) = let within = in_range (a + 1) n k later in (omega (arith, within.0), omega (arith, within.1))

pub was_given_in : (used k : ℕ) → In k (range_with_len 1 used) → was_given used k ≡ true
was_given_in used k at =
    let within = in_range 1 used k at in
    and_from (nat_lt 0 k) (nat_le k used) (lt-ltb 0 k (omega (arith, within.0))) (le-leb k used (omega (arith, within.1)))

-- what passed a test was there
pub in_filter : (test : ℕ → Bool) (xs : List ℕ) (k : ℕ) → In k (filter test xs) → (test k ≡ true) × In k xs
in_filter test [] k at = absurd at
in_filter test (x ∷ xs) k at =
    elim (test x) as (λ b. test x ≡ b → In k (cond b (x ∷ filter test xs) (filter test xs)) → (test k ≡ true) × In k (x ∷ xs)) [
      | true ↦ λ is there. elim there [
        | inl here ↦ (ap test here ∙ is, inl here)
        | inr later ↦ let rest = in_filter test xs k later in (rest.0, inr rest.1)
      ]
      | false ↦ λ _ there. let rest = in_filter test xs k there in (rest.0, inr rest.1)
    ] refl at

-- a test that a weaker one passes alone finds the same among what that passes
pub filter_within : (test weaker : ℕ → Bool) → ((k : ℕ) → weaker k ≡ false → test k ≡ false) → (xs : List ℕ) →
    filter test (filter weaker xs) ≡ filter test xs
filter_within test weaker fails [] = refl
filter_within test weaker fails (x ∷ xs) =
    elim (weaker x) as (λ b. weaker x ≡ b →
    filter test (cond b (x ∷ filter weaker xs) (filter weaker xs)) ≡ cond (test x) (x ∷ filter test xs) (filter test xs)) [
      | true ↦ λ _. ap (λ ys. cond (test x) (x ∷ ys) ys) (filter_within test weaker fails xs)
      | false ↦ λ is. filter_within test weaker fails xs ∙ sym (ap (λ b. cond b (x ∷ filter test xs) (filter test xs)) (fails x is))
    ] refl

-- Rows of serials in order

-- each is the first of its process
pub row_found : (s : State) (rows : List Row) (ks : List ℕ) (a : ℕ) → names_of rows ≡ map (local s) ks → Rise a ks → (row : Row) →
    In row rows → (k : ℕ) × (a ≤ k) × (row.process ≡ local s k) × (row_of rows (local s k) ≡ Some row)
row_found s [] ks a names rises row at = absurd at
row_found s (x ∷ rows) [] a names rises row at = absurd (no_names names)
  where
    no_names : x.process ∷ names_of rows ≡ [] → ⊥
    no_names e = cc
row_found s (x ∷ rows) (j ∷ ks) a names rises row (inl here) =
    let first : x.process ≡ local s j = cc in (
      j,
      rises.0,
      ap (λ (y : Row). y.process) here ∙ first,
      ap (λ b. cond b (Some x) (row_of rows (local s j))) (ap (λ p. proc_eq p (local s j)) first ∙ proc_itself (local s j))
          ∙ ap Some (sym here),
    )
row_found s (x ∷ rows) (j ∷ ks) a names rises row (inr there) =
    let first : x.process ≡ local s j = cc in
    let rest : names_of rows ≡ map (local s) ks = cc in
    let found = row_found s rows ks (j + 1) rest rises.1 row there in (
      found.0,
      omega (arith, found.1, rises.0),
      found.2,
      ap (λ b. cond b (Some x) (row_of rows (local s found.0))) (other_name s x j found.0 first (λ same. omega (arith, found.1, same)))
          ∙ found.3,
    )

-- who is none of them has no row
row_missing : (s : State) (rows : List Row) (ks : List ℕ) (k : ℕ) → names_of rows ≡ map (local s) ks → (In k ks → ⊥) →
    row_of rows (local s k) ≡ None
row_missing s [] ks k names none = refl
row_missing s (x ∷ rows) [] k names none = absurd (no_names names)
  where
    no_names : x.process ∷ names_of rows ≡ [] → ⊥
    no_names e = cc
row_missing s (x ∷ rows) (j ∷ ks) k names none =
    let first : x.process ≡ local s j = cc in
    let rest : names_of rows ≡ map (local s) ks = cc in
    ap (λ b. cond b (Some x) (row_of rows (local s k))) (other_name s x j k first (λ same. none (inl (sym same))))
    ∙ row_missing s rows ks k rest (λ later. none (inr later))

-- The rows of a queue, of those serials that pass a test

module _ (s : State) (rows : List Row) (has_row : ℕ → Bool) (used : ℕ)
    (names : names_of rows ≡ map (local s) (filter has_row (range_with_len 1 used))) where
  -- a serial that does not pass has none
  pub row_untested : (k : ℕ) → has_row k ≡ false → row_of rows (local s k) ≡ None
  row_untested k fails =
      row_missing s rows (filter has_row (range_with_len 1 used))
      k names (λ at. false≢true (sym fails ∙ (in_filter has_row (range_with_len 1 used) k at).0))

  -- nor has one that was not given
  pub row_ungiven : (k : ℕ) → was_given used k ≡ false → row_of rows (local s k) ≡ None
  row_ungiven k ungiven =
      row_missing s rows (filter has_row (range_with_len 1 used))
      k names (λ at. false≢true (sym ungiven ∙ was_given_in used k (in_filter has_row (range_with_len 1 used) k at).1))

  -- so who has a row was given
  pub row_given : (k : ℕ) → IsSome (row_of rows (local s k)) → was_given used k ≡ true
  row_given k some = elim (cases_Bool (was_given used k)) [
    | inl given ↦ given
    | inr ungiven ↦ absurd (false≢true (ap is_some (sym (row_ungiven k ungiven)) ∙ some))
  ]

-- the serials of rows by the names of their processes
pub serials_named : (s : State) (rows : List Row) (ks : List ℕ) → names_of rows ≡ map (local s) ks →
    map (λ (row : Row). row.process.serial) rows ≡ ks
serials_named s [] [] names = refl
serials_named s [] (j ∷ ks) names = absurd (no_names names)
  where
    no_names : [] ≡ local s j ∷ map (local s) ks → ⊥
    no_names e = cc
serials_named s (x ∷ rows) [] names = absurd (no_names names)
  where
    no_names : x.process ∷ names_of rows ≡ [] → ⊥
    no_names e = cc
serials_named s (x ∷ rows) (j ∷ ks) names =
    let first : x.process ≡ local s j = cc in
    let rest : names_of rows ≡ map (local s) ks = cc in
    (λ i. (first i).serial ∷ serials_named s rows ks rest i)

-- who has no row among those of these processes has none among others of the same
pub row_by_names : (xs ys : List Row) (p : Proc) → names_of xs ≡ names_of ys → row_of ys p ≡ None → row_of xs p ≡ None
row_by_names [] ys p same none = refl
row_by_names (x ∷ xs) [] p same none = absurd (no_names same)
  where
    no_names : x.process ∷ names_of xs ≡ [] → ⊥
    no_names e = cc
row_by_names (x ∷ xs) (y ∷ ys) p same none =
    let first : x.process ≡ y.process = cc in
    let rest : names_of xs ≡ names_of ys = cc in
    elim (proc_eq y.process p) as (λ b. proc_eq y.process p ≡ b → cond b (Some y) (row_of ys p) ≡ None → row_of (x ∷ xs) p ≡ None) [
      | true ↦ λ _ some. absurd (none-some y (sym some))
      | false ↦ λ other no. ap (λ b. cond b (Some x) (row_of xs p)) (ap (λ q. proc_eq q p) first ∙ other) ∙ row_by_names xs ys p rest no
    ] refl none
