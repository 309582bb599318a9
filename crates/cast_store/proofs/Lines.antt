-- The lines of all domains: what is seen of them, and one of them changed.
use Rattle.std.proofs.Common.{◌≡◌, ℕ, zero, suc, ◌+◌, ◌<◌, List, [], ◌∷◌, ◌++◌, cond, get_or}
use Rattle.std.proofs.Common.{length, replicate, set, Option, Some, None, refl, sym, ap, ◌∙◌, arith}
use Rattle.std.specs.Option.{option_map}
use Rattle.std.proofs.lemmas.Bool.{eq-eqb, ne_eqb}
use Rattle.std.proofs.lemmas.List.{get_or-set_same, get_or-set_other}
use Rattle.cast_types.specs.declared.names.DomainNo.{DomainNo}
use Rattle.cast_store.specs.declared.slot.Slot.{Slot}
use Rattle.cast_store.specs.Store.{shelf_of}
use Rattle.cast_store.specs.Lines.{Line, line_of, shelf_by, shelves_by, shelves_from, ChangesLine, IsPadded}

-- What is seen

module _ (slots : ℕ → Option Slot) (d : DomainNo) where
  -- none before the first
  not_before : (n : ℕ) (lines : List (Option Line)) → d.0 < n → shelf_of (shelves_from slots n lines) d ≡ None
  not_before n [] lt = refl
  not_before n (None ∷ rest) lt = not_before (n + 1) rest (omega (arith, lt))
  not_before n (Some l ∷ rest) lt =
      ap (λ b. cond b (Some (shelf_by slots n l)) (shelf_of (shelves_from slots (n + 1) rest) d))
      (ne_eqb n d.0 (λ same. absurd (omega (arith, same, lt))))
      ∙ not_before (n + 1) rest (omega (arith, lt))

  -- and each other at its number
  at_number : (n k : ℕ) (lines : List (Option Line)) → d.0 ≡ n + k →
      shelf_of (shelves_from slots n lines) d ≡ option_map (shelf_by slots d.0) (get_or lines k None)
  at_number n k [] is = refl
  at_number n zero (None ∷ rest) is = not_before (n + 1) rest (omega (arith, is))
  at_number n zero (Some l ∷ rest) is =
      let here : n ≡ d.0 = omega (arith, is) in
      ap (λ b. cond b (Some (shelf_by slots n l)) (shelf_of (shelves_from slots (n + 1) rest) d)) (eq-eqb n d.0 here)
      ∙ ap (λ m. Some (shelf_by slots m l)) here
  at_number n (suc k) (None ∷ rest) is = at_number (n + 1) k rest (omega (arith, is))
  at_number n (suc k) (Some l ∷ rest) is =
      ap (λ b. cond b (Some (shelf_by slots n l)) (shelf_of (shelves_from slots (n + 1) rest) d))
      (ne_eqb n d.0 (λ same. absurd (omega (arith, same, is))))
      ∙ at_number (n + 1) k rest (omega (arith, is))

  -- a domain's shelf is that of its line
  pub shelf_seen : (lines : List (Option Line)) → shelf_of (shelves_by slots lines) d ≡ option_map (shelf_by slots d.0) (line_of lines d)
  shelf_seen lines = at_number 0 d.0 lines (omega arith)

-- a line that was looked up in an equal list
pub looked_up : {o : Option Line} {lines lines' : List (Option Line)} (d : DomainNo) → lines' ≡ lines → o ≡ line_of lines' d →
    line_of lines d ≡ o
looked_up d same is = ap (λ (ls : List (Option Line)). line_of ls d) (sym same) ∙ sym is

-- Places without a line

none_there : (n k : ℕ) → get_or (replicate n (let o : Option Line = None in o)) k None ≡ None
none_there zero k = refl
none_there (suc n) zero = refl
none_there (suc n) (suc k) = none_there n k

line_padded : (lines : List (Option Line)) (n k : ℕ) → get_or (lines ++ replicate n None) k None ≡ get_or lines k None
line_padded [] n k = none_there n k
line_padded (x ∷ xs) n zero = refl
line_padded (x ∷ xs) n (suc k) = line_padded xs n k

none_shown : (slots : ℕ → Option Slot) (first n : ℕ) → shelves_from slots first (replicate n None) ≡ []
none_shown slots first zero = refl
none_shown slots first (suc n) = none_shown slots (first + 1) n

shown_padded : (slots : ℕ → Option Slot) (first n : ℕ) (lines : List (Option Line)) →
    shelves_from slots first (lines ++ replicate n None) ≡ shelves_from slots first lines
shown_padded slots first n [] = none_shown slots first n
shown_padded slots first n (None ∷ rest) = shown_padded slots (first + 1) n rest
shown_padded slots first n (Some l ∷ rest) = ap (λ shelves. shelf_by slots first l ∷ shelves) (shown_padded slots (first + 1) n rest)

module _ (lines lines' : List (Option Line)) (padded : IsPadded lines lines') where
  pub padded_line : (d : DomainNo) → line_of lines' d ≡ line_of lines d
  padded_line d = ap (λ (ls : List (Option Line)). line_of ls d) padded.1 ∙ line_padded lines padded.0 d.0

  pub padded_shelves : (slots : ℕ → Option Slot) → shelves_by slots lines' ≡ shelves_by slots lines
  padded_shelves slots = ap (shelves_by slots) padded.1 ∙ shown_padded slots 0 padded.0 lines

  -- a line that is changed behind places without one
  pub padded_changes : (d : DomainNo) (w : Option Line) (lines'' : List (Option Line)) → ChangesLine d w lines' lines'' →
      ChangesLine d w lines lines''
  padded_changes d w lines'' changes = record { here = changes.here; others = λ e differ. changes.others e differ ∙ padded_line e }

-- Changes

-- the line at a domain's place is written
pub changes_set : (d : DomainNo) (w : Option Line) (lines : List (Option Line)) → d.0 < length lines →
    ChangesLine d w lines (set lines d.0 w)
changes_set d w lines within = record {
  here = get_or-set_same lines d.0 w None within;
  others = λ e differ. get_or-set_other lines d.0 e.0 w None (λ same. differ (ap (λ (n : ℕ). record { 0 = n }) same));
}

-- within a list it is all one what stands behind the end
pub any_default : (lines : List (Option Line)) (i : ℕ) (o : Option Line) → i < length lines → get_or lines i o ≡ get_or lines i None
any_default [] i o within = absurd (omega (arith, within))
any_default (x ∷ xs) zero o within = refl
any_default (x ∷ xs) (suc i) o within = any_default xs i o (omega (arith, within))
