-- The digits of bytes that are made part by part.
use Rattle.std.proofs.Common.{◌≡◌, ◌==◌, ℕ, ◌/◌, ◌%◌, true, List, [], ◌∷◌, ◌++◌, length}
use Rattle.std.proofs.Common.{take, drop, refl, sym, ap, ◌∙◌, append_assoc, slice_index}
use Rattle.std.proofs.lemmas.Bool.{eqb-true}
use Rattle.std.proofs.lemmas.List.{append-nil, nil_from_length, take-append-drop}
use Rattle.hex.specs.Hex.{encode_lower, encode_with}

encode_append : (t xs ys : List ℕ) → encode_with t (xs ++ ys) ≡ encode_with t xs ++ encode_with t ys
unfolding encode_with
encode_append t [] ys = refl
encode_append t (b ∷ xs) ys = ap (λ r. slice_index t (b / 16) ∷ slice_index t (b % 16) ∷ r) (encode_append t xs ys)

-- a text, the digits of the first bytes and those of the others are the text and the digits of all
pub part_written : (text bytes : List ℕ) (n : ℕ) →
    (text ++ encode_lower (take n bytes)) ++ encode_lower (drop n bytes) ≡ text ++ encode_lower bytes
part_written text bytes n =
    append_assoc text (encode_lower (take n bytes)) (encode_lower (drop n bytes))
    ∙ ap (λ r. text ++ r) (sym (encode_append _ (take n bytes) (drop n bytes)) ∙ ap encode_lower (take-append-drop n bytes))

-- nothing is left
pub all_written : (text rest whole : List ℕ) → (length rest == 0) ≡ true → text ++ encode_lower rest ≡ whole → text ≡ whole
unfolding encode_with
all_written text rest whole none is =
    sym (append-nil text) ∙ ap (λ r. text ++ encode_lower r) (sym (nil_from_length rest (eqb-true (length rest) 0 none))) ∙ is
