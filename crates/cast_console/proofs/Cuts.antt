-- Cutting a text at its first space.
use Rattle.std.proofs.Common.{◌≡◌, ◌≢◌, ℕ, suc, ◌<◌, eqb, List, [], ◌∷◌, length, get_or, false, Some, None, Err, Bor, refl, arith, lit<}
use Rattle.std.proofs.lemmas.Bool.{ne_eqb}
use Rattle.std.proofs.lemmas.List.Splits.{length-slice_split, slice_split_first}
use Rattle.std.proofs.lemmas.Str.Pattern.{IsSplitOnceResult, split_once_first, split_parts}
use Rattle.cast_script.specs.Words.{parts_at}
use Rattle.cast_console.specs.declared.line.LineFault.TheVariants.{WrongCount}
use Rattle.cast_console.specs.Lines.{none_of}

pub cut_at : (bs : List ℕ) (word rest : Bor (List ℕ)) → IsSplitOnceResult 32 bs (Some (word, rest)) →
    parts_at 32 bs ≡ word.now ∷ parts_at 32 rest.now
cut_at bs word rest split =
    let parts = split_once_first 32 bs (Some (word, rest)) split (lit< tt) in
    rw (parts.1, parts.2) (slice_split_first (λ b. eqb b 32) bs 0 parts.0)

one_part : (bs : List ℕ) → ((k : ℕ) → k < length bs → get_or bs k 0 ≢ 32) → parts_at 32 bs ≡ bs ∷ []
one_part [] h = refl
one_part (b ∷ bs) h =
    let other : eqb b 32 ≡ false = ne_eqb b 32 (h 0 (omega arith)) in
    let rest = one_part bs (λ k lt. h (suc k) (omega (arith, lt))) in
    rw (other, rest) refl

pub not_cut : (bs : List ℕ) → IsSplitOnceResult 32 bs None → parts_at 32 bs ≡ bs ∷ []
not_cut bs split = one_part bs (split_parts 32 bs None split (lit< tt))

none_of_some : (ws : List (List ℕ)) → 0 < length ws → none_of ws ≡ Err WrongCount
none_of_some [] some = absurd (omega arith)
none_of_some (w ∷ ws) some = refl

-- a text has a word
pub some_word : (bs : List ℕ) → none_of (parts_at 32 bs) ≡ Err WrongCount
some_word bs =
    let counted = length-slice_split (λ b. eqb b 32) bs in
    none_of_some (parts_at 32 bs) (omega (arith, counted))
