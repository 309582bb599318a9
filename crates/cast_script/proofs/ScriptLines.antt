-- Lines with their numbers.
use Rattle.std.proofs.Common.{◌≡◌, ℕ, ◌+◌, ◌-◌, cond, eqb, false, List, [], ◌∷◌, length, map, filter}
use Rattle.std.proofs.Common.{Some, None, Result, Err, inl, inr, refl, ap, add-zero, arith, Ok}
use Rattle.std.specs.Borrow.{Bor}
use Rattle.std.specs.List.{slice_get}
use Rattle.std.proofs.lemmas.Bool.{cases_Bool}
use Rattle.std.proofs.lemmas.Option.{slice_get-get_or}
use Rattle.cast_script.specs.declared.script.ScriptFault.{ScriptFault}
use Rattle.cast_script.specs.declared.script.ScriptFault.TheVariants as script
use Rattle.cast_script.specs.declared.words.LineFault.{LineFault}
use Rattle.cast_script.specs.declared.words.LineFault.TheVariants as fault
use Rattle.cast_script.specs.declared.words.Reason.{Reason}
use Rattle.cast_script.specs.Scripts.{is_used}
use Rattle.cast_script.specs.Words.{texts}
use Rattle.cast_script.specs.WordReadings.{Gives}
use Rattle.cast_script.specs.Readings.{GivesAt, Numbered, at_line, end_after, fault_at, numbered_from}

-- what a line is read as has no number
pub line_ok : {A : Type 0} (n : ℕ) (r : Result A Reason) (x : A) → at_line n r ≡ Ok x → r ≡ Ok x
line_ok n (Ok y) x e = cc
line_ok n (Err d) x e = absurd cc

-- the used lines from a line of this number on
abbrev pub used_from : ℕ → List (List ℕ) → List Numbered
used_from n lines = filter (λ l. is_used l.1) (numbered_from n lines)

-- the used lines without their numbers
pub used_texts : (n : ℕ) (lines : List (List ℕ)) → map (λ l. l.1) (used_from n lines) ≡ filter is_used lines
used_texts n [] = refl
used_texts n (line ∷ lines) =
    elim (cases_Bool (is_used line)) [
      | inl used ↦ rw (used, used_texts (n + 1) lines) refl
      | inr unused ↦ rw (unused, used_texts (n + 1) lines) refl
    ]

-- the number of the line behind the last is told by the last
last_is : (n : ℕ) (line : Bor (List ℕ)) (lines : List (Bor (List ℕ))) (last : Bor (List ℕ))
    → slice_get (line ∷ lines) (length lines) ≡ Some last
    → end_after n (texts (line ∷ lines)) ≡ cond (eqb (length last.now) 0) (n + length lines) (n + length lines + 1)
last_is n line [] last e =
    let same : line ≡ last = cc in
    rw (same, add-zero) refl
last_is n line (next ∷ lines) last e =
    let same : n + 1 + length lines ≡ n + length (next ∷ lines) = omega arith in
    rw (← same) (last_is (n + 1) next lines last e)

-- nothing stands behind the last line feed
pub end_empty : (lines : List (Bor (List ℕ))) (last : Bor (List ℕ)) → slice_get lines (length lines - 1) ≡ Some last → length last.now ≡ 0
    → length lines ≡ end_after 1 (texts lines)
end_empty [] last e none = absurd cc
end_empty (line ∷ lines) last e none =
    let place : length (line ∷ lines) - 1 ≡ length lines = omega arith in
    let found : slice_get (line ∷ lines) (length lines) ≡ Some last = rw place at e in
    let told = last_is 1 line lines last found in
    rw (told, none) (omega arith)

-- something does
pub end_full : (lines : List (Bor (List ℕ))) (last : Bor (List ℕ)) → slice_get lines (length lines - 1) ≡ Some last
    → eqb (length last.now) 0 ≡ false → length lines + 1 ≡ end_after 1 (texts lines)
end_full [] last e some = absurd cc
end_full (line ∷ lines) last e some =
    let place : length (line ∷ lines) - 1 ≡ length lines = omega arith in
    let found : slice_get (line ∷ lines) (length lines) ≡ Some last = rw place at e in
    let told = last_is 1 line lines last found in
    rw (told, some) (omega arith)

pub end_none : (lines : List (Bor (List ℕ))) → slice_get lines (length lines - 1) ≡ None → length lines + 1 ≡ end_after 1 (texts lines)
end_none [] e = refl
end_none (line ∷ lines) e =
    let found = slice_get-get_or (line ∷ lines) (length (line ∷ lines) - 1) line (omega arith) in
    absurd (cc (found, e))

-- ---- faults of lines

-- the fault of a line, with its number
pub fault_gives : {A : Type 0} (n : ℕ) (f : LineFault) (read : Result A Reason) → Gives {X = A} (Err f) read
    → GivesAt {X = A} (Err (fault_at n f)) (at_line n read)
fault_gives n (fault.Refused reason) read gives = ap (at_line n) gives
fault_gives n fault.NoMemory read gives = tt

-- a fault ends what is read of lines
pub fault_ends : {A B : Type 0} (f : ScriptFault) (read : Result A (ℕ × Reason)) (total : Result B (ℕ × Reason))
    → ((e : ℕ × Reason) → read ≡ Err e → total ≡ Err e) → GivesAt {X = A} (Err f) read → GivesAt {X = B} (Err f) total
fault_ends (script.At n reason) read total ends given = ends (n, reason) given
fault_ends script.NoMemory read total ends given = tt
