-- Printed lines: their words are found again, and all of them are used.
use Rattle.std.proofs.Common.{◌≡◌, ℕ, ◌<◌, ◌≤◌, true, false, not, eqb, List, [], ◌∷◌, length, map, refl, ap, ◌∙◌, arith}
use Rattle.std.specs.List.{All, AllByRecursion, filter, flat_map, join_with_byte}
use Rattle.std.specs.Str.{IsAscii}
use Rattle.std.proofs.lemmas.Bool.{ne_eqb}
use Rattle.std.proofs.lemmas.List.Elements.{All-weaker}
use Rattle.std.proofs.lemmas.Str.{IsAscii-append}
use Rattle.std.proofs.lemmas.Str.Ascii.{IsAscii-cons, IsAscii-from_all, IsAscii-nil}
use Rattle.cast_script.specs.Lines.{words_of}
use Rattle.cast_script.specs.Scripts.{is_used, used_lines_of}
use Rattle.cast_print.specs.Scripts.{line_text}
use Rattle.cast_print.proofs.Joined.{Lacks, joined_all, parted_first, parted_joined}
use Rattle.cast_print.proofs.WordBytes.{IsWord, is_word_byte, word_byte_is, word_lacks}

-- words of which the first is not empty
abbrev pub AreWords : List (List ℕ) → Type 0
AreWords [] = ⊥
AreWords (w ∷ ws) = (1 ≤ length w) × AllByRecursion IsWord (w ∷ ws)

abbrev pub joined : List (List ℕ) → List ℕ
joined words = join_with_byte 32 words

lack_all : (c : ℕ) (ws : List (List ℕ)) → c ≤ 35 → AllByRecursion IsWord ws → AllByRecursion (Lacks c) ws
lack_all c [] low are = tt
lack_all c (w ∷ ws) low are = (word_lacks c w low are.0, lack_all c ws low are.1)

pub words_again : (ws : List (List ℕ)) → AreWords ws → words_of (joined ws) ≡ ws
words_again [] are = absurd are
words_again (w ∷ ws) are = parted_joined 32 w ws (lack_all 32 (w ∷ ws) (omega arith) are.1)

no_feed : (ws : List (List ℕ)) → AreWords ws → Lacks 10 (joined ws)
no_feed [] are = absurd are
no_feed (w ∷ ws) are = joined_all (λ b. eqb b 10 ≡ false) 32 (w ∷ ws) refl (lack_all 10 (w ∷ ws) (omega arith) are.1)

no_comment : (b : ℕ) → is_word_byte b ≡ true → not (eqb b 35) ≡ true
no_comment b is = ap not (ne_eqb b 35 (λ same. omega (arith, (word_byte_is b is).0)))

used : (ws : List (List ℕ)) → AreWords ws → is_used (joined ws) ≡ true
used [] are = absurd are
used ([] ∷ ws) are = absurd (omega (arith, are.0))
used ((b ∷ w) ∷ []) are = no_comment b (are.1.0 0 0 (omega arith))
used ((b ∷ w) ∷ next ∷ ws) are = no_comment b (are.1.0 0 0 (omega arith))

pub lines_again : (lines : List (List (List ℕ))) → AllByRecursion AreWords lines →
    used_lines_of (flat_map line_text lines) ≡ map joined lines
lines_again [] are = refl
lines_again (ws ∷ lines) are =
    ap (filter is_used) (parted_first 10 (joined ws) (flat_map line_text lines) (no_feed ws are.0))
    ∙ rw (used ws are.0) (ap (λ ls. joined ws ∷ ls) (lines_again lines are.1))

-- ---- ASCII

ascii_words : (ws : List (List ℕ)) → AllByRecursion IsWord ws → AllByRecursion (All (λ b. b < 128)) ws
ascii_words [] are = tt
ascii_words (w ∷ ws) are = (
  All-weaker (λ b. is_word_byte b ≡ true) (λ b. b < 128) (λ b is. (word_byte_is b is).1) w are.0,
  ascii_words ws are.1,
)

ascii_line : (ws : List (List ℕ)) → AreWords ws → IsAscii (line_text ws)
ascii_line [] are = absurd are
ascii_line (w ∷ ws) are =
    IsAscii-append (joined (w ∷ ws)) (10 ∷ [])
    (IsAscii-from_all _ (joined_all (λ b. b < 128) 32 (w ∷ ws) (omega arith) (ascii_words (w ∷ ws) are.1)))
    (IsAscii-cons 10 [] (omega arith) IsAscii-nil)

pub ascii_lines : (lines : List (List (List ℕ))) → AllByRecursion AreWords lines → IsAscii (flat_map line_text lines)
ascii_lines [] are = IsAscii-nil
ascii_lines (ws ∷ lines) are = IsAscii-append (line_text ws) (flat_map line_text lines) (ascii_line ws are.0) (ascii_lines lines are.1)
