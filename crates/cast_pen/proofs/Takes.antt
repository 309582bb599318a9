-- What asked for a Take, and has none behind it.
use Rattle.std.proofs.Common.{◌≡◌, ◌⊎◌, ℕ, Bool, true, false, true≢false, IsTrue, List, [], ◌∷◌, ◌++◌, length, not, ◌&&◌, refl, sym, ap}
use Rattle.std.proofs.Common.{subst, ◌∙◌, inl, inr, arith}
use Rattle.std.specs.Prelude.{◌||◌, ⊤}
use Rattle.std.specs.List.{list_any}
use Rattle.std.proofs.lemmas.Bool.{cases_Bool, false≢true, or_left, or_right}
use Rattle.cast_pen.specs.declared.pen.Pen.{Pen}
use Rattle.cast_pen.specs.declared.pen.Place.{Place}
use Rattle.cast_pen.specs.declared.pen.Place.TheVariants as place
use Rattle.cast_pen.specs.declared.writing.WriterTask.{WriterTask}
use Rattle.cast_pen.specs.declared.writing.WriterTask.TheVariants as task
use Rattle.cast_pen.specs.Pens.{asked, gets, is_missed, is_missing, waits, waited, fetched}
use Rattle.cast_pen.specs.Moves.{Move, Claimed, Called, Took, Wrote, Turned, WentOn, GaveUp, Passed, Fetched, Waited, Closed, Ended}
use Rattle.cast_pen.specs.Writing.{is_full}
use Rattle.cast_pen.specs.Moves.{after, pen_after, holders, passes, owing, owes}
use Rattle.cast_pen.specs.Laws.{has, AreKept, asks, takes, closes, NoPushIsLeft, HolderGoesOn, MissedIsWanted}
use Rattle.cast_pen.proofs.Holders.{Stands, held_by, made, stands, waited_place}

-- something asked, and there is none Take behind it
abbrev unmet : List Move → Bool
unmet [] = false
unmet (m ∷ earlier) = asks m || (not (takes m) && unmet earlier)

-- a Take is still to come from where the pen is, where b says that who has it will take the outbox
abbrev Due : Place → Bool → Type 0
Due place.Free b = ⊥
Due place.Missed b = ⊤
Due place.Held b = b ≡ true
Due (place.Passed task) b = b ≡ true

-- or the stream is closed
abbrev DueIf : Bool → Place → Bool → Type 0
DueIf true p b = ⊤
DueIf false p b = Due p b

abbrev IsDue : Pen → Bool → Type 0
IsDue pen o = DueIf pen.is_over pen.place (pen.is_wanted || o)

claimed_due : (p : Place) (wanted over awaited : Bool) (turns t : ℕ) (o : Bool) →
    let pen = made p wanted over awaited turns in
    IsDue (after pen (Claimed t)) (owing (Claimed t) pen o)
claimed_due p wanted true awaited turns t o = tt
claimed_due place.Free wanted false awaited turns t o = refl
claimed_due place.Missed wanted false awaited turns t o = refl
claimed_due place.Held wanted false awaited turns t o = refl
claimed_due (place.Passed task) wanted false awaited turns t o = refl

called_due : (p : Place) (wanted over awaited : Bool) (turns : ℕ) (o : Bool) →
    let pen = made p wanted over awaited turns in
    IsDue (after pen Called) (owing Called pen o)
called_due p wanted true awaited turns o = tt
called_due place.Free wanted false awaited turns o = refl
called_due place.Missed wanted false awaited turns o = refl
called_due place.Held wanted false awaited turns o = refl
called_due (place.Passed task) wanted false awaited turns o = refl

not_missing : (p : Place) (hs : List ℕ) (n t : ℕ) → Stands p hs n → IsTrue (has t hs) → is_missing p ≡ true → ⊥
not_missing p hs n t s is missing =
    false≢true (sym (ap is_missing (held_by p hs n t s is).2) ∙ missing)

went_due : (p : Place) (wanted over awaited : Bool) (turns t : ℕ) (o : Bool) → o ≡ false → (is_missing p ≡ true → ⊥) →
    let pen = made p wanted over awaited turns in
    IsDue pen o → IsDue (after pen (WentOn t)) (owing (WentOn t) pen o)
went_due p wanted true awaited turns t o none held d = tt
went_due place.Free true false awaited turns t o none held d = d
went_due place.Missed true false awaited turns t o none held d = tt
went_due place.Held true false awaited turns t o none held d = refl
went_due (place.Passed task) true false awaited turns t o none held d = refl
went_due place.Free false false awaited turns t o none held d = d
went_due place.Missed false false awaited turns t o none held d = held refl
went_due place.Held false false awaited turns t o none held d = false≢true (sym none ∙ d)
went_due (place.Passed task) false false awaited turns t o none held d = false≢true (sym none ∙ d)

passed_due : (next : WriterTask) (p : Place) (over b : Bool) → (is_missing p ≡ true → ⊥) → DueIf over p b →
    DueIf over (place.Passed next) b
passed_due next p true b held d = tt
passed_due next place.Free false b held d = absurd d
passed_due next place.Missed false b held d = absurd (held refl)
passed_due next place.Held false b held d = d
passed_due next (place.Passed task) false b held d = d

missed_due : (over b : Bool) → DueIf over place.Missed b
missed_due true b = tt
missed_due false b = tt

fetched_due : (p : Place) (wanted over awaited : Bool) (turns : ℕ) (o : Bool) →
    let pen = made p wanted over awaited turns in
    IsDue pen o → IsDue (fetched pen) o
fetched_due p wanted true awaited turns o d = tt
fetched_due place.Free wanted false awaited turns o d = d
fetched_due place.Missed wanted false awaited turns o d = tt
fetched_due place.Held wanted false awaited turns o d = d
fetched_due (place.Passed task) wanted false awaited turns o d = d

raised : (over : Bool) (p : Place) (b : Bool) → DueIf over p b → DueIf over p true
raised true p b d = tt
raised false place.Free b d = d
raised false place.Missed b d = tt
raised false place.Held b d = refl
raised false (place.Passed task) b d = refl

took_due : (full : Bool) (pen : Pen) (u o : Bool) → (u ≡ true → IsDue pen o) → (not (not full) && u) ≡ true → IsDue pen full
took_due true pen u o before is =
    subst (λ b. DueIf pen.is_over pen.place b) (sym (or_right pen.is_wanted true refl))
    (raised pen.is_over pen.place (pen.is_wanted || o) (before is))
took_due false pen u o before is = absurd (false≢true is)

waited_due : (first times : ℕ) (pen : Pen) (o : Bool) → IsDue pen o → IsDue (waited first times pen) o
waited_due first times pen o d = elim (cases_Bool (waits first times pen)) [
  | inl goes ↦ rw goes (raised pen.is_over pen.place (pen.is_wanted || o) d)
  | inr ends ↦ rw ends d
]

due_next : (m : Move) (ms : List Move) → AreKept (m ∷ ms) → (unmet ms ≡ true → IsDue (pen_after ms) (owes ms)) → unmet (m ∷ ms) ≡ true →
    IsDue (pen_after (m ∷ ms)) (owes (m ∷ ms))
due_next (Claimed t) ms kept before is =
    let pen = pen_after ms in
    claimed_due pen.place pen.is_wanted pen.is_over pen.is_awaited pen.turns t (owes ms)
due_next Called ms kept before is =
    let pen = pen_after ms in
    called_due pen.place pen.is_wanted pen.is_over pen.is_awaited pen.turns (owes ms)
due_next (Took t pushes) ms kept before is = took_due (is_full pushes) (pen_after ms) (unmet ms) (owes ms) before is
due_next (Wrote t n) ms kept before is = before is
due_next (Turned t) ms kept before is = before is
due_next (WentOn t) ms kept before is =
    let pen = pen_after ms in
    went_due pen.place pen.is_wanted pen.is_over pen.is_awaited pen.turns t (owes ms) kept.0.2
    (not_missing pen.place (holders ms) (passes ms) t (stands ms kept.1) kept.0.0) (before is)
due_next (GaveUp t) ms kept before is =
    missed_due (pen_after ms).is_over (false || owes ms)
due_next (Passed t task) ms kept before is =
    let pen = pen_after ms in
    passed_due task pen.place pen.is_over (pen.is_wanted || owes ms)
    (not_missing pen.place (holders ms) (passes ms) t (stands ms kept.1) kept.0.0) (before is)
due_next (Fetched t) ms kept before is =
    let pen = pen_after ms in
    fetched_due pen.place pen.is_wanted pen.is_over pen.is_awaited pen.turns (owes ms) (before is)
due_next (Waited first times) ms kept before is = waited_due first times (pen_after ms) (owes ms) (before is)
due_next Closed ms kept before is = tt
due_next (Ended t) ms kept before is = tt

due : (ms : List Move) → AreKept ms → unmet ms ≡ true → IsDue (pen_after ms) (owes ms)
due [] kept is = absurd (false≢true is)
due (m ∷ ms) kept is = due_next m ms kept (λ u. due ms kept.1 u) is

-- there is a Take behind it, or not
met : (newer older : List Move) (m : Move) → asks m ≡ true → (list_any takes newer ≡ true) ⊎ (unmet (newer ++ m ∷ older) ≡ true)
met [] older m is = inr (or_left (asks m) (not (takes m) && unmet older) is)
met (x ∷ newer) older m is = elim (cases_Bool (takes x)) [
  | inl there ↦ inl (or_left (takes x) (list_any takes newer) there)
  | inr other ↦ elim (met newer older m is) [
    | inl later ↦ inl (or_right (takes x) (list_any takes newer) later)
    | inr never ↦ inr (or_right (asks x) (not (takes x) && unmet (newer ++ m ∷ older)) (rw other never))
  ]
]

-- Whether the stream is closed

pub asked_over : (to p : Place) (wanted over awaited : Bool) (turns : ℕ) → (asked to (made p wanted over awaited turns)).is_over ≡ over
asked_over to p wanted true awaited turns = refl
asked_over to place.Free wanted false awaited turns = refl
asked_over to place.Missed wanted false awaited turns = refl
asked_over to place.Held wanted false awaited turns = refl
asked_over to (place.Passed task) wanted false awaited turns = refl

pub fetched_over : (p : Place) (wanted over awaited : Bool) (turns : ℕ) → (fetched (made p wanted over awaited turns)).is_over ≡ over
fetched_over p wanted true awaited turns = refl
fetched_over p wanted false awaited turns = refl

pub waited_over : (first times : ℕ) (pen : Pen) → (waited first times pen).is_over ≡ pen.is_over
waited_over first times pen = elim (cases_Bool (waits first times pen)) [
  | inl goes ↦ rw goes refl
  | inr ends ↦ rw ends refl
]

pub over_after : (m : Move) (pen : Pen) → closes m ≡ false → (after pen m).is_over ≡ pen.is_over
over_after (Claimed t) pen none = asked_over place.Held pen.place pen.is_wanted pen.is_over pen.is_awaited pen.turns
over_after Called pen none = asked_over (place.Passed task.Take) pen.place pen.is_wanted pen.is_over pen.is_awaited pen.turns
over_after (Took t pushes) pen none = refl
over_after (Wrote t n) pen none = refl
over_after (Turned t) pen none = refl
over_after (WentOn t) pen none = refl
over_after (GaveUp t) pen none = refl
over_after (Passed t task) pen none = refl
over_after (Fetched t) pen none = fetched_over pen.place pen.is_wanted pen.is_over pen.is_awaited pen.turns
over_after (Waited first times) pen none = waited_over first times pen
over_after Closed pen none = absurd (true≢false none)
over_after (Ended t) pen none = absurd (true≢false none)

pub no_either : (a b : Bool) → (a || b) ≡ false → (a ≡ false) × (b ≡ false)
no_either true b none = absurd (true≢false none)
no_either false b none = (refl, none)

pub not_over : (ms : List Move) → list_any closes ms ≡ false → (pen_after ms).is_over ≡ false
not_over [] none = refl
not_over (m ∷ ms) none =
    let parts = no_either (closes m) (list_any closes ms) none in
    over_after m (pen_after ms) parts.0 ∙ not_over ms parts.1

-- What is free

nothing_due : (p : Place) (over b : Bool) (hs : List ℕ) (n : ℕ) → Stands p hs n → hs ≡ [] → n ≡ 0 → over ≡ false →
    (not over && is_missing p) ≡ false → DueIf over p b → ⊥
nothing_due p true b hs n s unheld unpassed still missed d = true≢false still
nothing_due place.Free false b hs n s unheld unpassed still missed d = d
nothing_due place.Missed false b hs n s unheld unpassed still missed d = true≢false missed
nothing_due place.Held false b hs n s unheld unpassed still missed d =
    let one : 0 ≡ 1 = sym (ap length unheld) ∙ ap length s.1 in absurd (omega (arith, one))
nothing_due (place.Passed task) false b hs n s unheld unpassed still missed d = absurd (omega (arith, s.1, unpassed))

pub no_push_is_left : NoPushIsLeft
no_push_is_left newer older m asks kept free missed = elim (met newer older m asks) [
  | inl there ↦ there
  | inr never ↦
      let ms : List Move = newer ++ m ∷ older in
      let pen = pen_after ms in
      absurd
      (nothing_due pen.place pen.is_over (pen.is_wanted || owes ms) (holders ms) (passes ms) (stands ms kept) free.unheld
      free.unpassed (not_over ms free.unclosed) missed (due ms kept never))
]

wanted_due : (p : Place) (wanted over o : Bool) → p ≡ place.Held → o ≡ false → over ≡ false → DueIf over p (wanted || o) →
    (wanted && not over) ≡ true
wanted_due p wanted true o held none still d = absurd (true≢false still)
wanted_due p true false o held none still d = refl
wanted_due p false false o held none still d =
    let due : o ≡ true = subst (λ q. Due q o) held d in absurd (false≢true (sym none ∙ due))

pub holder_goes_on : HolderGoesOn
holder_goes_on newer older m t asks kept still none = elim (met newer older m asks) [
  | inl there ↦ absurd (false≢true (sym none ∙ there))
  | inr never ↦
      let ms : List Move = newer ++ m ∷ older in
      let pen = pen_after ms in
      wanted_due pen.place pen.is_wanted pen.is_over (owes ms)
      (held_by pen.place (holders ms) (passes ms) t (stands ms kept.1) kept.0.0).2 kept.0.2 (not_over ms still) (due ms kept.1 never)
]

-- What was missed

fetched_missing : (p : Place) (wanted over awaited : Bool) (turns : ℕ) → is_missing p ≡ true →
    is_missing (fetched (made p wanted over awaited turns)).place ≡ true
fetched_missing p wanted true awaited turns is = is
fetched_missing place.Free wanted false awaited turns is = is
fetched_missing place.Missed wanted false awaited turns is = is
fetched_missing place.Held wanted false awaited turns is = is
fetched_missing (place.Passed task) wanted false awaited turns is = absurd (false≢true is)

stays : (m : Move) (ms : List Move) → AreKept (m ∷ ms) → asks m ≡ false → is_missing (pen_after ms).place ≡ true →
    is_missing (pen_after (m ∷ ms)).place ≡ true
stays (Claimed t) ms kept none is = absurd (true≢false none)
stays Called ms kept none is = absurd (true≢false none)
stays (Took t pushes) ms kept none is = is
stays (Wrote t n) ms kept none is = is
stays (Turned t) ms kept none is = is
stays (WentOn t) ms kept none is =
    absurd (not_missing (pen_after ms).place (holders ms) (passes ms) t (stands ms kept.1) kept.0.0 is)
stays (GaveUp t) ms kept none is = refl
stays (Passed t task) ms kept none is =
    absurd (not_missing (pen_after ms).place (holders ms) (passes ms) t (stands ms kept.1) kept.0.0 is)
stays (Fetched t) ms kept none is =
    let pen = pen_after ms in
    fetched_missing pen.place pen.is_wanted pen.is_over pen.is_awaited pen.turns is
stays (Waited first times) ms kept none is = ap is_missing (waited_place first times (pen_after ms)) ∙ is
stays Closed ms kept none is = is
stays (Ended t) ms kept none is =
    absurd (not_missing (pen_after ms).place (holders ms) (passes ms) t (stands ms kept.1) kept.0 is)

missing_after : (newer older : List Move) (t : ℕ) → AreKept (newer ++ GaveUp t ∷ older) → list_any asks newer ≡ false →
    is_missing (pen_after (newer ++ GaveUp t ∷ older)).place ≡ true
missing_after [] older t kept none = refl
missing_after (x ∷ newer) older t kept none =
    let parts = no_either (asks x) (list_any asks newer) none in
    stays x (newer ++ GaveUp t ∷ older) kept parts.0 (missing_after newer older t kept.1 parts.1)

missed_gets : (p : Place) (wanted over awaited : Bool) (turns : ℕ) → over ≡ false → is_missing p ≡ true →
    let pen = made p wanted over awaited turns in
    (is_missed pen ≡ true) × (gets pen ≡ true)
missed_gets p wanted true awaited turns still is = absurd (true≢false still)
missed_gets place.Free wanted false awaited turns still is = absurd (false≢true is)
missed_gets place.Missed wanted false awaited turns still is = (refl, refl)
missed_gets place.Held wanted false awaited turns still is = absurd (false≢true is)
missed_gets (place.Passed task) wanted false awaited turns still is = absurd (false≢true is)

pub missed_is_wanted : MissedIsWanted
missed_is_wanted newer older t kept still none =
    let ms : List Move = newer ++ GaveUp t ∷ older in
    let pen = pen_after ms in
    missed_gets pen.place pen.is_wanted pen.is_over pen.is_awaited pen.turns (not_over ms still) (missing_after newer older t kept none)
