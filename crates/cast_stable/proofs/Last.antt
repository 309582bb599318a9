-- The greatest count of a set, and so of the messages of a source that were received.
use Rattle.std.proofs.Common.{◌≡◌, ℕ, zero, suc, ◌+◌, ◌-◌, ◌<◌, ◌≤◌, ◌⊎◌, max, true, Some}
use Rattle.std.proofs.Common.{List, [], ◌∷◌, length, refl, sym, subst, ◌∙◌, inl, inr, arith}
use Rattle.std.specs.Prelude.{◌&&◌, ◌==◌, nat_lt, nat_le}
use Rattle.std.specs.List.{list_any, fold, slice_get}
use Rattle.std.proofs.Math.Nat.{le-max_left, le-max_right}
use Rattle.std.proofs.lemmas.Bool.{and_parts, and_from, or_cases, or_left, or_right, cases_lt}
use Rattle.std.proofs.lemmas.Bool.{lt-ltb, ltb-true, le-leb, leb-true, eq-eqb, eqb-true}
use Rattle.std.proofs.lemmas.Option.{none-some, same_Some, slice_get_within}
use Rattle.cast_types.specs.declared.names.Uid.{Uid}
use Rattle.cast_types.specs.declared.source.Source.{Source}
use Rattle.cast_types.specs.Names.{uid_eq, uid_in}
use Rattle.cast_types.specs.Sets.{is_among}
use Rattle.cast_types.specs.Sources.{source_of}
use Rattle.cast_stable.specs.Runs.{Run, rises_above, is_run, contains, greatest}
use Rattle.cast_stable.specs.Acks.{Acks, received_run, last_received_in}
use Rattle.cast_stable.specs.Fits.{Past, Fits, SaysLast}

-- the greatest number is at least the first and each of the others
greatest_first : (a : ℕ) (xs : List ℕ) → a ≤ fold max a xs
greatest_first a [] = omega arith
greatest_first a (x ∷ xs) = omega (arith, greatest_first (max a x) xs, le-max_left a x)

greatest_each : (a k : ℕ) (xs : List ℕ) → list_any (λ x. x == k) xs ≡ true → k ≤ fold max a xs
greatest_each a k [] some = cc
greatest_each a k (x ∷ xs) some = elim (or_cases (x == k) (list_any (λ y. y == k) xs) some) [
  | inl here ↦ let same = eqb-true x k here in omega (arith, same, greatest_first (max a x) xs, le-max_right a x)
  | inr later ↦ greatest_each (max a x) k xs later
]

max_cases : (a b : ℕ) → (max a b ≡ a) ⊎ (max a b ≡ b)
max_cases a b = elim (cases_lt a b) [ inl lt ↦ inr (omega (arith, lt)) | inr ge ↦ inl (omega (arith, ge)) ]

-- and is one of them
greatest_reached : (a : ℕ) (xs : List ℕ) → (fold max a xs ≡ a) ⊎ (list_any (λ x. x == fold max a xs) xs ≡ true)
greatest_reached a [] = inl refl
greatest_reached a (x ∷ xs) = elim (greatest_reached (max a x) xs) [
  | inl first ↦ elim (max_cases a x) [
    | inl left ↦ inl (first ∙ left)
    | inr right ↦
        inr (or_left (x == fold max (max a x) xs) (list_any (λ y. y == fold max (max a x) xs) xs)
        (eq-eqb x (fold max (max a x) xs) (sym (first ∙ right))))
  ]
  | inr later ↦ inr (or_right (x == fold max (max a x) xs) (list_any (λ y. y == fold max (max a x) xs) xs) later)
]

-- of numbers that rise from above the first it is the last
fold_last : (a n i k : ℕ) (xs : List ℕ) → a ≤ n → rises_above n xs ≡ true → i + 1 ≡ length xs → slice_get xs i ≡ Some k → fold max a xs ≡ k
fold_last a n i k [] le rise end at = absurd (none-some k at)
fold_last a n zero k (x ∷ []) le rise end at =
    let lt : n < x = ltb-true n x (and_parts (nat_lt n x) true rise).0 in
    let most : max a x ≡ x = omega (arith, le, lt) in
    most ∙ same_Some x k at
fold_last a n zero k (x ∷ y ∷ xs) le rise end at = absurd (omega (arith, end))
fold_last a n (suc j) k (x ∷ xs) le rise end at =
    let parts = and_parts (nat_lt n x) (rises_above x xs) rise in
    let lt : n < x = ltb-true n x parts.0 in
    fold_last (max a x) x j k xs (omega (arith, le, lt)) parts.1 (omega (arith, end)) at

-- so the greatest count of a set is the last of the further ones
pub greatest_last : (r : Run) (k : ℕ) → is_run r ≡ true → slice_get r.above (length r.above - 1) ≡ Some k → greatest r ≡ k
greatest_last r k h at =
    let within = slice_get_within r.above (length r.above - 1) k at in
    fold_last r.upto (r.upto + 1) (length r.above - 1) k r.above (omega arith) h (omega (arith, within)) at

-- no count of a set is above its greatest
pub greatest_most : (r : Run) (k : ℕ) → contains r k ≡ true → k ≤ greatest r
greatest_most r k has = elim (or_cases (nat_lt 0 k && nat_le k r.upto) (list_any (λ x. x == k) r.above) has) [
  | inl within ↦
      let le = leb-true k r.upto (and_parts (nat_lt 0 k) (nat_le k r.upto) within).1 in
      omega (arith, le, greatest_first r.upto r.above)
  | inr further ↦ greatest_each r.upto k r.above further
]

-- which is in the set, unless it is 0
pub greatest_in : (r : Run) → 0 < greatest r → contains r (greatest r) ≡ true
greatest_in r some = elim (greatest_reached r.upto r.above) [
  | inl first ↦
      or_left (nat_lt 0 (greatest r) && nat_le (greatest r) r.upto) (list_any (λ x. x == greatest r) r.above)
      (and_from (nat_lt 0 (greatest r)) (nat_le (greatest r) r.upto) (lt-ltb 0 (greatest r) some)
      (le-leb (greatest r) r.upto (omega (arith, first))))
  | inr further ↦ or_right (nat_lt 0 (greatest r) && nat_le (greatest r) r.upto) (list_any (λ x. x == greatest r) r.above) further
]

-- no message of a live source that was received is beyond the last count
pub last_most : (past : Past) (l : Acks) → Fits past l → (u : Uid) → past.is_live (source_of u) ≡ true → 0 < u.count →
    is_among uid_eq u past.received ≡ true → u.count ≤ last_received_in l (source_of u)
last_most past l fits u live positive among =
    greatest_most (received_run l (source_of u)) u.count (fits.receipts u live positive ∙ among)

-- and one with that count was received, unless it is 0
pub last_each : (past : Past) (l : Acks) → Fits past l → (s : Source) → past.is_live s ≡ true → 0 < last_received_in l s →
    is_among uid_eq (uid_in s.group s.view (s.process, last_received_in l s)) past.received ≡ true
last_each past l fits s live some =
    sym (fits.receipts (uid_in s.group s.view (s.process, last_received_in l s)) live some) ∙ greatest_in (received_run l s) some

-- what the ledger answers means that
pub last_means : (l : Acks) (s : Source) (last : ℕ) → last ≡ last_received_in l s → (past : Past) → Fits past l → past.is_live s ≡ true →
    SaysLast past.received s last
last_means l s last is past fits live =
    subst (λ n. SaysLast past.received s n) (sym is)
    (record {
      most = λ count positive among. last_most past l fits (uid_in s.group s.view (s.process, count)) live positive among;
      was = last_each past l fits s live;
    })
