-- Where the pen is, and who has it.
use Rattle.std.proofs.Common.{◌≡◌, ◌≤◌, ℕ, ◌+◌, ◌-◌, Bool, true, false, true≢false, IsTrue, List, [], ◌∷◌, length, refl, sym, ap}
use Rattle.std.proofs.Common.{subst, ◌∙◌, inl, inr, arith}
use Rattle.std.specs.Prelude.{◌==◌}
use Rattle.std.proofs.lemmas.Bool.{cases_Bool}
use Rattle.cast_pen.specs.declared.pen.Pen.{Pen}
use Rattle.cast_pen.specs.declared.pen.Place.{Place}
use Rattle.cast_pen.specs.declared.pen.Place.TheVariants as place
use Rattle.cast_pen.specs.Pens.{waits, waited}
use Rattle.cast_pen.specs.Moves.{Move, Claimed, Called, Took, Wrote, Turned, WentOn, GaveUp, Passed, Fetched, Waited, Closed, Ended}
use Rattle.cast_pen.specs.Moves.{after, pen_after, holding, holders, passing, passes, without}
use Rattle.cast_pen.specs.Laws.{has, AreKept, MayFollow, OneHolder}

-- what the place of the pen says of who has it
abbrev pub Stands : Place → List ℕ → ℕ → Type 0
Stands place.Free hs n = (hs ≡ []) × (n ≡ 0)
Stands place.Missed hs n = (hs ≡ []) × (n ≡ 0)
Stands place.Held hs n = (t : ℕ) × (hs ≡ t ∷ []) × (n ≡ 0)
Stands (place.Passed task) hs n = (hs ≡ []) × (n ≡ 1)

abbrev pub made : Place → Bool → Bool → Bool → ℕ → Pen
made p wanted over awaited turns =
    record { place = p; is_wanted = wanted; is_over = over; is_awaited = awaited; turns = turns }

nobody_has : (t : ℕ) (hs : List ℕ) → hs ≡ [] → IsTrue (has t hs) → ⊥
nobody_has t hs none is = true≢false (sym is ∙ ap (has t) none)

left_alone : (t u : ℕ) → IsTrue (has t (u ∷ [])) → without t (u ∷ []) ≡ []
left_alone t u is = elim (cases_Bool (u == t)) [
  | inl same ↦ rw same refl
  | inr other ↦ absurd (true≢false (sym is ∙ rw other refl))
]

-- who has the pen is the only one, and the pen is nowhere else
pub held_by : (p : Place) (hs : List ℕ) (n t : ℕ) → Stands p hs n → IsTrue (has t hs) → (without t hs ≡ []) × (n ≡ 0) × (p ≡ place.Held)
held_by place.Free hs n t s is = absurd (nobody_has t hs s.0 is)
held_by place.Missed hs n t s is = absurd (nobody_has t hs s.0 is)
held_by place.Held hs n t s is =
    ((ap (without t) s.1 ∙ left_alone t s.0 (subst (λ l. IsTrue (has t l)) s.1 is)), s.2, refl)
held_by (place.Passed task) hs n t s is = absurd (nobody_has t hs s.0 is)

claimed_stands : (p : Place) (wanted over awaited : Bool) (turns t : ℕ) (hs : List ℕ) (n : ℕ) → Stands p hs n →
    let pen = made p wanted over awaited turns in
    Stands (after pen (Claimed t)).place (holding (Claimed t) pen hs) (passing (Claimed t) pen n)
claimed_stands p wanted true awaited turns t hs n s = s
claimed_stands place.Free wanted false awaited turns t hs n s = (t, ap (λ l. t ∷ l) s.0, s.1)
claimed_stands place.Missed wanted false awaited turns t hs n s = (t, ap (λ l. t ∷ l) s.0, s.1)
claimed_stands place.Held wanted false awaited turns t hs n s = s
claimed_stands (place.Passed task) wanted false awaited turns t hs n s = s

called_stands : (p : Place) (wanted over awaited : Bool) (turns : ℕ) (hs : List ℕ) (n : ℕ) → Stands p hs n →
    let pen = made p wanted over awaited turns in
    Stands (after pen Called).place (holding Called pen hs) (passing Called pen n)
called_stands p wanted true awaited turns hs n s = s
called_stands place.Free wanted false awaited turns hs n s = (s.0, ap (λ k. k + 1) s.1)
called_stands place.Missed wanted false awaited turns hs n s = (s.0, ap (λ k. k + 1) s.1)
called_stands place.Held wanted false awaited turns hs n s = s
called_stands (place.Passed task) wanted false awaited turns hs n s = s

went_stands : (p : Place) (wanted over awaited : Bool) (turns t : ℕ) (hs : List ℕ) (n : ℕ) → Stands p hs n → IsTrue (has t hs) →
    let pen = made p wanted over awaited turns in
    Stands (after pen (WentOn t)).place (holding (WentOn t) pen hs) n
went_stands p true false awaited turns t hs n s is = s
went_stands p true true awaited turns t hs n s is = let by = held_by p hs n t s is in (by.0, by.1)
went_stands p false over awaited turns t hs n s is = let by = held_by p hs n t s is in (by.0, by.1)

fetched_stands : (p : Place) (wanted over awaited : Bool) (turns t : ℕ) (hs : List ℕ) (n : ℕ) → Stands p hs n →
    let pen = made p wanted over awaited turns in
    Stands (after pen (Fetched t)).place (holding (Fetched t) pen hs) (passing (Fetched t) pen n)
fetched_stands p wanted true awaited turns t hs n s = s
fetched_stands place.Free wanted false awaited turns t hs n s = s
fetched_stands place.Missed wanted false awaited turns t hs n s = s
fetched_stands place.Held wanted false awaited turns t hs n s = s
fetched_stands (place.Passed task) wanted false awaited turns t hs n s = (t, ap (λ l. t ∷ l) s.0, ap (λ k. k - 1) s.1)

pub waited_place : (first times : ℕ) (pen : Pen) → (waited first times pen).place ≡ pen.place
waited_place first times pen = elim (cases_Bool (waits first times pen)) [
  | inl goes ↦ rw goes refl
  | inr ends ↦ rw ends refl
]

steps : (m : Move) (ms : List Move) → Stands (pen_after ms).place (holders ms) (passes ms) → MayFollow m ms →
    Stands (pen_after (m ∷ ms)).place (holders (m ∷ ms)) (passes (m ∷ ms))
steps (Claimed t) ms s may =
    let pen = pen_after ms in
    claimed_stands pen.place pen.is_wanted pen.is_over pen.is_awaited pen.turns t (holders ms) (passes ms) s
steps Called ms s may =
    let pen = pen_after ms in
    called_stands pen.place pen.is_wanted pen.is_over pen.is_awaited pen.turns (holders ms) (passes ms) s
steps (Took t pushes) ms s may = s
steps (Wrote t n) ms s may = s
steps (Turned t) ms s may = s
steps (WentOn t) ms s may =
    let pen = pen_after ms in
    went_stands pen.place pen.is_wanted pen.is_over pen.is_awaited pen.turns t (holders ms) (passes ms) s may.0
steps (GaveUp t) ms s may = let by = held_by (pen_after ms).place (holders ms) (passes ms) t s may.0 in (by.0, by.1)
steps (Passed t task) ms s may =
    let by = held_by (pen_after ms).place (holders ms) (passes ms) t s may.0 in (by.0, ap (λ k. k + 1) by.1)
steps (Fetched t) ms s may =
    let pen = pen_after ms in
    fetched_stands pen.place pen.is_wanted pen.is_over pen.is_awaited pen.turns t (holders ms) (passes ms) s
steps (Waited first times) ms s may =
    subst (λ p. Stands p (holders ms) (passes ms)) (sym (waited_place first times (pen_after ms))) s
steps Closed ms s may = s
steps (Ended t) ms s may = let by = held_by (pen_after ms).place (holders ms) (passes ms) t s may in (by.0, by.1)

pub stands : (ms : List Move) → AreKept ms → Stands (pen_after ms).place (holders ms) (passes ms)
stands [] kept = (refl, refl)
stands (m ∷ ms) kept = steps m ms (stands ms kept.1) kept.0

one_at : (p : Place) (hs : List ℕ) (n : ℕ) → Stands p hs n → length hs + n ≤ 1
one_at place.Free hs n s = omega (arith, ap length s.0, s.1)
one_at place.Missed hs n s = omega (arith, ap length s.0, s.1)
one_at place.Held hs n s = omega (arith, ap length s.1, s.2)
one_at (place.Passed task) hs n s = omega (arith, ap length s.0, s.1)

pub one_holder : OneHolder
one_holder ms kept = one_at (pen_after ms).place (holders ms) (passes ms) (stands ms kept)
