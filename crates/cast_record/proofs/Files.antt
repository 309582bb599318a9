-- The lines of a file, one after another.
use Rattle.std.proofs.Common.{◌≡◌, ◌+◌, ◌-◌, ◌<◌, ◌≤◌, ℕ, Bool, true, false, cond, not, List, [], ◌∷◌, ◌++◌, length, map}
use Rattle.std.proofs.Common.{refl, sym, ap, ◌∙◌, arith}
use Rattle.std.specs.List.{slice_split, onto_first, position_or_len, before_first, after_first}
use Rattle.std.proofs.lemmas.List.{append_assoc, map-append, length-append, take_at}
use Rattle.std.proofs.lemmas.List.Splits.{slice_split_first}
use Rattle.cast_record.specs.Parts.{Line, is_line_feed, but_last, line_of, lines_of_file}

pub next_line : (rest line behind : List ℕ) → position_or_len is_line_feed rest < length rest →
    line ≡ before_first is_line_feed rest → behind ≡ after_first is_line_feed rest →
    slice_split is_line_feed rest ≡ line ∷ slice_split is_line_feed behind
next_line rest line behind within before after =
    slice_split_first is_line_feed rest 0 within
    ∙ ap (λ n. n ∷ slice_split is_line_feed (after_first is_line_feed rest)) (sym before)
    ∙ ap (λ r. line ∷ slice_split is_line_feed r) (sym after)

onto : (b : Bool) (x : ℕ) (xs : List ℕ) (n : ℕ) → length (x ∷ xs) ≤ cond (not b) (1 + n) 0
    → (length xs ≤ n → slice_split is_line_feed xs ≡ xs ∷ [])
    → cond b ([] ∷ slice_split is_line_feed xs) (onto_first x (slice_split is_line_feed xs)) ≡ (x ∷ xs) ∷ []
onto true x xs n long rest = absurd (omega arith)
onto false x xs n long rest = ap (λ parts. onto_first x parts) (rest (omega arith))

one_line : (rest : List ℕ) → length rest ≤ position_or_len is_line_feed rest → slice_split is_line_feed rest ≡ rest ∷ []
one_line [] long = refl
one_line (x ∷ xs) long = onto (is_line_feed x) x xs (position_or_len is_line_feed xs) long (one_line xs)

-- the lines of a file whose first lines were read, and behind them this one
pub all_lines : (read parts : List (List ℕ)) (rest : List ℕ) → length rest ≤ position_or_len is_line_feed rest →
    parts ≡ read ++ slice_split is_line_feed rest → parts ≡ read ++ rest ∷ []
all_lines read parts rest long e = e ∙ ap (λ ls. read ++ ls) (one_line rest long)

pub one_more : (lines : List Line) (is_first : Bool) (read : List (List ℕ)) (line : List ℕ) →
    (lines ++ map (line_of is_first) read) ++ line_of is_first line ∷ []
    ≡ lines ++ map (line_of is_first) (read ++ line ∷ [])
one_more lines is_first read line =
    append_assoc lines (map (line_of is_first) read) (line_of is_first line ∷ [])
    ∙ ap (λ ls. lines ++ ls) (sym (map-append (line_of is_first) read (line ∷ [])))

pub but_last_push : (lines : List (List ℕ)) (line : List ℕ) → but_last (lines ++ line ∷ []) ≡ lines
but_last_push lines line =
    take_at lines (line ∷ []) (length (lines ++ line ∷ []) - 1) (omega (arith, length-append lines (line ∷ [])))

pub whole_file : (lines : List Line) (is_first is_whole : Bool) (bytes : List ℕ) (read : List (List ℕ)) (rest : List ℕ) →
    is_whole ≡ true → slice_split is_line_feed bytes ≡ read ++ rest ∷ [] →
    (lines ++ map (line_of is_first) read) ++ line_of is_first rest ∷ [] ≡ lines ++ lines_of_file is_first is_whole bytes
whole_file lines is_first true bytes read rest is e =
    one_more lines is_first read rest ∙ ap (λ parts. lines ++ map (line_of is_first) parts) (sym e)
whole_file lines is_first false bytes read rest is e = absurd (cc)

pub cut_file : (lines : List Line) (is_first is_whole : Bool) (bytes : List ℕ) (read : List (List ℕ)) (rest : List ℕ) →
    is_whole ≡ false → slice_split is_line_feed bytes ≡ read ++ rest ∷ [] →
    lines ++ map (line_of is_first) read ≡ lines ++ lines_of_file is_first is_whole bytes
cut_file lines is_first true bytes read rest is e = absurd (cc)
cut_file lines is_first false bytes read rest is e =
    ap (λ parts. lines ++ map (line_of is_first) parts) (sym (but_last_push read rest) ∙ ap but_last (sym e))
