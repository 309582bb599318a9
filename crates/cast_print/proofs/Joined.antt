-- Pieces that are joined by a byte, and parted at it again.
use Rattle.std.proofs.Common.{◌≡◌, ◌≤◌, ◌-◌, ℕ, false, eqb, List, [], ◌∷◌, ◌++◌, length}
use Rattle.std.proofs.Common.{get_or, take, drop, refl, sym, ap, ◌∙◌, append_assoc, arith}
use Rattle.std.specs.List.{All, AllByRecursion, flat_map, join_with_byte}
use Rattle.std.specs.Fmt.{decimal}
use Rattle.std.proofs.lemmas.Bool.{eq-eqb}
use Rattle.std.proofs.lemmas.List.{append-nil, drop_all, take_all}
use Rattle.std.proofs.lemmas.List.Elements.{All-append, All-cons, All-nil}
use Rattle.std.proofs.lemmas.List.Splits.{slice_split_at, slice_split_none}
use Rattle.cast_script.specs.Words.{parts_at}
use Rattle.cast_print.specs.Scripts.{numbers_text}

-- the byte c is nowhere in a list
abbrev pub Lacks : ℕ → List ℕ → Type 0
Lacks c bytes = All (λ b. eqb b c ≡ false) bytes

pub joined_all : (P : ℕ → Type 0) (by : ℕ) (pieces : List (List ℕ)) → P by → AllByRecursion (All P) pieces
    → All P (join_with_byte by pieces)
joined_all P by [] is are = All-nil P
joined_all P by (piece ∷ []) is are = are.0
joined_all P by (piece ∷ next ∷ pieces) is are =
    All-append P piece _ are.0 (All-cons P by _ is (joined_all P by (next ∷ pieces) is are.1))

pub parted_joined : (by : ℕ) (piece : List ℕ) (pieces : List (List ℕ)) → AllByRecursion (Lacks by) (piece ∷ pieces)
    → parts_at by (join_with_byte by (piece ∷ pieces)) ≡ piece ∷ pieces
parted_joined by piece [] lack = slice_split_none (λ b. eqb b by) piece lack.0
parted_joined by piece (next ∷ pieces) lack =
    slice_split_at (λ b. eqb b by) piece by _ lack.0 (eq-eqb by by refl) ∙ ap (λ parts. piece ∷ parts) (parted_joined by next pieces lack.1)

-- the first of several lines, each ended by the byte
pub parted_first : (by : ℕ) (line rest : List ℕ) → Lacks by line → parts_at by ((line ++ by ∷ []) ++ rest) ≡ line ∷ parts_at by rest
parted_first by line rest lacks =
    ap (parts_at by) (append_assoc line (by ∷ []) rest) ∙ slice_split_at (λ b. eqb b by) line by rest lacks (eq-eqb by by refl)

-- a number behind others
abbrev pub comma_text : ℕ → List ℕ
comma_text n = 44 ∷ decimal n

numbers_joined : (n : ℕ) (ns : List ℕ) → numbers_text (n ∷ ns) ≡ decimal n ++ flat_map comma_text ns
numbers_joined n [] = sym (append-nil (decimal n))
numbers_joined n (m ∷ ns) = ap (λ rest. decimal n ++ 44 ∷ rest) (numbers_joined m ns)

numbers_first : (ns : List ℕ) → 1 ≤ length ns
    → numbers_text ns ≡ decimal (get_or ns 0 0) ++ flat_map comma_text (take (length ns - 1) (drop 1 ns))
numbers_first [] some = absurd (omega arith)
numbers_first (n ∷ ns) some =
    let all : take (length (n ∷ ns) - 1) ns ≡ ns = take_all (length (n ∷ ns) - 1) ns (omega arith) in
    numbers_joined n ns ∙ ap (λ others. decimal n ++ flat_map comma_text others) (sym all)

-- the first number is written, and then the others with commas
pub numbers_written : (ns others : List ℕ) (i : ℕ) (old first now : List ℕ) → 1 ≤ length ns → others ≡ take (length ns - 1) (drop 1 ns)
    → length others ≤ i → first ≡ old ++ decimal (get_or ns 0 0)
    → now ++ flat_map comma_text (drop i others) ≡ first ++ flat_map comma_text others → now ≡ old ++ numbers_text ns
numbers_written ns others i old first now some rest done begun so_far =
    let all = drop_all i others done in
    let whole = numbers_first ns some in
    let end : now ++ flat_map comma_text (drop i others) ≡ now = rw all (append-nil now) in
    sym end ∙ so_far ∙ rw (begun, rest, whole, append_assoc) refl
