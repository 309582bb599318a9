-- What domains share, with another part of one domain.
use Rattle.std.proofs.Common.{◌≡◌, ◌≢◌, ℕ, zero, suc, Bool, true, false, not, List, [], ◌∷◌, ◌++◌, Option, Some, None}
use Rattle.std.proofs.Common.{refl, sym, ap, ◌∙◌, arith, map}
use Rattle.std.specs.Prelude.{◌==◌, ◌&&◌, filter, if◌then◌else◌, nat_lt, nat_le}
use Rattle.std.specs.List.{find, range_with_len}
use Rattle.std.specs.Option.{option_map_or}
use Rattle.std.proofs.lemmas.Bool.{and_parts, cases_lt, eq-eqb, eqb-false, eqb-true}
use Rattle.std.proofs.lemmas.Bool.{false_from_ne_true, false≢true, leb-true, ltb-true, not-false}
use Rattle.std.proofs.lemmas.Bool.{not-true}
use Rattle.std.proofs.lemmas.List.{append-nil}
use Rattle.std.proofs.Common.{append_assoc, inl, inr, ◌<◌, ◌≤◌, ◌+◌}
use Rattle.cast_types.specs.declared.names.DomainNo.{DomainNo}
use Rattle.cast_message.specs.declared.client.Push.{Push}
use Rattle.cast_store.specs.Store.{Shelf}
use Rattle.cast_store.specs.Store as store
use Rattle.cast_timer.specs.Rows.{Row, owed_in, owed_among, frames_of}
use Rattle.cast_timer.specs.Rows as rows
use Rattle.cast_timer.specs.declared.key.Owed.{Owed}
use Rattle.cast_outbox.specs.Outboxes.{entries_in, outboxes_in, pending}
use Rattle.cast_outbox.specs.Outboxes as boxes
use Rattle.cast_outbox.specs.Pending.{Pending}
use Rattle.cast_rules.specs.State.{was_given}
use Rattle.cast_domain.specs.Shared.{LeavesOthers, Part, part_of}
use Rattle.cast_domain.specs.declared.shared.Shared.{Shared}
use Rattle.cast_domain.proofs.Shares.{leaves}

-- a row of one frame that is owed
abbrev pub row_for : DomainNo → Owed → Row
row_for d o = (record { due = o.due; domain = d }, record { keys = o.key ∷ [] })

abbrev pub is_other_row : DomainNo → Row → Bool
is_other_row d r = not (rows.is_of d r.0)

abbrev pub is_other_box : DomainNo → Option Pending → Bool
is_other_box d slot = not (option_map_or (λ x. x.domain == d.0) slot false)

abbrev pub box_for : DomainNo → (ℕ → List Push) → ℕ → Option Pending
box_for d outboxes k = Some (pending d k (outboxes k))

-- another part of one domain, which gave so many serials
abbrev pub shared_with : Shared → DomainNo → ℕ → Part → Shared
shared_with shared d used p = record shared {
  store = record { domain = d; next = p.next; kept = p.kept } ∷ shared.store;
  timers = map (row_for d) p.owed ++ filter (is_other_row d) shared.timers;
  outboxes = map (box_for d p.outboxes) (range_with_len 1 used) ++ filter (is_other_box d) shared.outboxes;
}

-- What is owed

owed_both : (e : DomainNo) (a b : List Row) → owed_among (a ++ b) e ≡ owed_among a e ++ owed_among b e
owed_both e [] b = refl
owed_both e (r ∷ a) b =
    ap (λ later. frames_of e r ++ later) (owed_both e a b) ∙ sym (append_assoc (frames_of e r) (owed_among a e) (owed_among b e))

owed_own : (d : DomainNo) (owed : List Owed) → owed_among (map (row_for d) owed) d ≡ owed
owed_own d [] = refl
owed_own d (o ∷ owed) =
    ap (λ b. (if b then o ∷ [] else []) ++ owed_among (map (row_for d) owed) d) (eq-eqb d.0 d.0 refl)
    ∙ ap (λ later. o ∷ later) (owed_own d owed)

owed_none : (d e : DomainNo) → (e.0 == d.0) ≡ false → (owed : List Owed) → owed_among (map (row_for d) owed) e ≡ []
owed_none d e other [] = refl
owed_none d e other (o ∷ owed) =
    ap (λ b. (if b then o ∷ [] else []) ++ owed_among (map (row_for d) owed) e) other ∙ owed_none d e other owed

no_rows : (d : DomainNo) (rs : List Row) → owed_among (filter (is_other_row d) rs) d ≡ []
no_rows d [] = refl
no_rows d (r ∷ rs) = go (rows.is_of d r.0) refl (no_rows d rs)
  where
    go : (b : Bool) → rows.is_of d r.0 ≡ b → owed_among (filter (is_other_row d) rs) d ≡ [] →
        owed_among (if not b then r ∷ filter (is_other_row d) rs else filter (is_other_row d) rs) d ≡ []
    go true is none = none
    go false is none = ap (λ b. (if b then rows.frames_at r.0 r.1.keys else []) ++ owed_among (filter (is_other_row d) rs) d) is ∙ none

other_rows : (d e : DomainNo) → (e.0 == d.0) ≡ false → (rs : List Row) → owed_among (filter (is_other_row d) rs) e ≡ owed_among rs e
other_rows d e other [] = refl
other_rows d e other (r ∷ rs) = go (rows.is_of d r.0) refl (other_rows d e other rs)
  where
    go : (b : Bool) → rows.is_of d r.0 ≡ b → owed_among (filter (is_other_row d) rs) e ≡ owed_among rs e →
        owed_among (if not b then r ∷ filter (is_other_row d) rs else filter (is_other_row d) rs) e ≡ frames_of e r ++ owed_among rs e
    go true is same =
        let not_own : rows.is_of e r.0 ≡ false = ap (λ n. e.0 == n) (sym (eqb-true d.0 r.0.domain.0 is)) ∙ other in
        same ∙ ap (λ b. (if b then rows.frames_at r.0 r.1.keys else []) ++ owed_among rs e) (sym not_own)
    go false is same = ap (λ later. frames_of e r ++ later) same

-- Outboxes

-- the first that passes a test, where what the other test leaves out does not pass it
find_kept : {X : Type 0} (p q : X → Bool) → ((x : X) → q x ≡ false → p x ≡ false) → (xs : List X) → find p (filter q xs) ≡ find p xs
find_kept p q so [] = refl
find_kept {X} p q so (x ∷ xs) = go (q x) refl (find_kept p q so xs)
  where
    go : (b : Bool) → q x ≡ b → find p (filter q xs) ≡ find p xs →
        find p (if b then x ∷ filter q xs else filter q xs) ≡ (if p x then Some x else find p xs)
    go true is same = ap (λ o. if p x then Some x else o) same
    go false is same = same ∙ ap (λ b. if b then Some x else find p xs) (sym (so x is))

find_none : {X : Type 0} (p q : X → Bool) → ((x : X) → q x ≡ true → p x ≡ false) → (xs : List X) → find p (filter q xs) ≡ None
find_none p q so [] = refl
find_none {X} p q so (x ∷ xs) = go (q x) refl (find_none p q so xs)
  where
    go : (b : Bool) → q x ≡ b → find p (filter q xs) ≡ None → find p (if b then x ∷ filter q xs else filter q xs) ≡ None
    go true is none = ap (λ b. if b then Some x else find p (filter q xs)) (so x is) ∙ none
    go false is none = none

-- the boxes of serials from one on, and others behind them
find_own : (d : DomainNo) (f : ℕ → List Push) (k : ℕ) (rest : List (Option Pending)) → find (boxes.is_of d k) rest ≡ None →
    (first count : ℕ) → ((first ≤ k → k < first + count → ⊥) → f k ≡ []) →
    option_map_or entries_in (find (boxes.is_of d k) (map (box_for d f) (range_with_len first count) ++ rest)) [] ≡ f k
find_own d f k rest none first zero unused =
    ap (λ o. option_map_or entries_in o []) none ∙ sym (unused (λ from upto. omega (arith, from, upto)))
find_own d f k rest none first (suc count) unused =
    ap (λ b. option_map_or entries_in (if b && (first == k) then Some (box_for d f first) else later) []) (eq-eqb d.0 d.0 refl)
    ∙ go (first == k) refl (find_own d f k rest none (first + 1) count)
  where
    later : Option (Option Pending)
    later = find (boxes.is_of d k) (map (box_for d f) (range_with_len (first + 1) count) ++ rest)

    go : (b : Bool) → first == k ≡ b →
        (((first + 1 ≤ k → k < first + 1 + count → ⊥) → f k ≡ []) → option_map_or entries_in later [] ≡ f k) →
        option_map_or entries_in (if b then Some (box_for d f first) else later) [] ≡ f k
    go true is further = ap f (eqb-true first k is)
    go false is further =
        further (λ out. unused (λ from upto. elim (cases_lt first k) [
          | inl lt ↦ out (omega (arith, lt)) (omega (arith, upto))
          | inr ge ↦ eqb-false first k is (omega (arith, from, ge))
        ]))

-- The part of the domain, and those of others

flipped : (a b : ℕ) → (b == a) ≡ false → (a == b) ≡ false
flipped a b other = false_from_ne_true (a == b) (λ is. eqb-false b a other (sym (eqb-true a b is)))

none_of_it : (d : DomainNo) (k : ℕ) (slot : Option Pending) → is_other_box d slot ≡ true → boxes.is_of d k slot ≡ false
none_of_it d k None other = refl
none_of_it d k (Some x) other = ap (λ b. b && (x.serial == k)) (not-true (x.domain == d.0) other)

of_another : (d e : DomainNo) → (e.0 == d.0) ≡ false → (k : ℕ) (slot : Option Pending) → is_other_box d slot ≡ false →
    boxes.is_of e k slot ≡ false
of_another d e other k None is = absurd (false≢true (sym is))
of_another d e other k (Some x) is =
    ap (λ b. b && (x.serial == k))
    (ap (λ n. n == e.0) (eqb-true x.domain d.0 (not-false (x.domain == d.0) is)) ∙ flipped d.0 e.0 other)

boxes_passed : (d e : DomainNo) (f : ℕ → List Push) (k : ℕ) (rest : List (Option Pending)) → (e.0 == d.0) ≡ false → (first count : ℕ) →
    find (boxes.is_of e k) (map (box_for d f) (range_with_len first count) ++ rest) ≡ find (boxes.is_of e k) rest
boxes_passed d e f k rest other first zero = refl
boxes_passed d e f k rest other first (suc count) =
    ap (λ b. if b && (first == k) then Some (box_for d f first)
    else find (boxes.is_of e k) (map (box_for d f) (range_with_len (first + 1) count) ++ rest)) (flipped d.0 e.0 other)
    ∙ boxes_passed d e f k rest other (first + 1) count

pub part_given : (shared : Shared) (d : DomainNo) (used : ℕ) (p : Part) → ((k : ℕ) → was_given used k ≡ false → p.outboxes k ≡ []) →
    part_of d (shared_with shared d used p) ≡ p
unfolding owed_in outboxes_in
part_given shared d used p unused = λ i. record {
  kept = option_map_or (λ s. s.kept) (first i) [];
  next = option_map_or (λ s. s.next) (first i) 0;
  owed = owed i;
  outboxes = λ k. box k i;
}
  where
    shelf : Shelf
    shelf = record { domain = d; next = p.next; kept = p.kept }

    first : store.shelf_of (shelf ∷ shared.store) d ≡ Some shelf
    first = ap (λ b. if b then Some shelf else store.shelf_of shared.store d) (eq-eqb d.0 d.0 refl)

    owed : owed_among (map (row_for d) p.owed ++ filter (is_other_row d) shared.timers) d ≡ p.owed
    owed =
        owed_both d (map (row_for d) p.owed) (filter (is_other_row d) shared.timers)
        ∙ (λ i. owed_own d p.owed i ++ no_rows d shared.timers i)
        ∙ append-nil p.owed

    box : (k : ℕ) →
        option_map_or entries_in (find (boxes.is_of d k) (map (box_for d p.outboxes) (range_with_len 1 used)
        ++ filter (is_other_box d) shared.outboxes)) [] ≡ p.outboxes k
    box k =
        find_own d p.outboxes k (filter (is_other_box d) shared.outboxes)
        (find_none (boxes.is_of d k) (is_other_box d) (none_of_it d k) shared.outboxes) 1 used
        (λ out. unused k (false_from_ne_true (was_given used k) (λ given.
        let parts = and_parts (nat_lt 0 k) (nat_le k used) given in
        let from = ltb-true 0 k parts.0 in
        let upto = leb-true k used parts.1 in
        out (omega (arith, from)) (omega (arith, upto)))))

pub others_left : (shared : Shared) (d : DomainNo) (used : ℕ) (p : Part) → LeavesOthers d shared (shared_with shared d used p)
unfolding owed_in outboxes_in
others_left shared d used p = leaves d shared (shared_with shared d used p) (λ e apart. same e (differ e apart))
  where
    differ : (e : DomainNo) → e ≢ d → (e.0 == d.0) ≡ false
    differ e apart = false_from_ne_true (e.0 == d.0) (λ is. apart (λ i. record { 0 = eqb-true e.0 d.0 is i }))

    same : (e : DomainNo) → (e.0 == d.0) ≡ false → part_of e (shared_with shared d used p) ≡ part_of e shared
    same e other = λ i. record {
      kept = option_map_or (λ s. s.kept) (first i) [];
      next = option_map_or (λ s. s.next) (first i) 0;
      owed = owed i;
      outboxes = λ k. box k i;
    }
      where
        shelf : Shelf
        shelf = record { domain = d; next = p.next; kept = p.kept }

        first : store.shelf_of (shelf ∷ shared.store) e ≡ store.shelf_of shared.store e
        first = ap (λ b. if b then Some shelf else store.shelf_of shared.store e) (flipped d.0 e.0 other)

        owed : owed_among (map (row_for d) p.owed ++ filter (is_other_row d) shared.timers) e ≡ owed_among shared.timers e
        owed =
            owed_both e (map (row_for d) p.owed) (filter (is_other_row d) shared.timers)
            ∙ (λ i. owed_none d e other p.owed i ++ other_rows d e other shared.timers i)

        box : (k : ℕ) →
            option_map_or entries_in (find (boxes.is_of e k) (map (box_for d p.outboxes) (range_with_len 1 used)
            ++ filter (is_other_box d) shared.outboxes)) [] ≡ option_map_or entries_in (find (boxes.is_of e k) shared.outboxes) []
        box k =
            ap (λ o. option_map_or entries_in o [])
            (boxes_passed d e p.outboxes k (filter (is_other_box d) shared.outboxes) other 1 used
            ∙ find_kept (boxes.is_of e k) (is_other_box d) (of_another d e other k) shared.outboxes)
