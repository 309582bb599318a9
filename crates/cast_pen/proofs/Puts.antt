-- What is done with bytes in hand, as a move.
use Rattle.std.proofs.Common.{◌≡◌, ℕ, List, [], ◌++◌, drop, take, length, sym, ap, ◌∙◌, inl, inr}
use Rattle.std.proofs.Math.Seq.{take-append_seam, drop-append_seam}
use Rattle.std.proofs.lemmas.List.{append-nil}
use Rattle.cast_pen.specs.declared.writing.Next.TheVariants.{GoOn, Rest, End}
use Rattle.cast_pen.specs.Writing.{left_of}
use Rattle.cast_pen.specs.Laws.{PuttingIsWriting}

-- so many bytes are taken, and these are left
abbrev Parted : List ℕ → List ℕ → List ℕ → List ℕ → Type 0
Parted old new bytes left = (n : ℕ) × (new ≡ old ++ take n bytes) × (left ≡ drop n bytes)

parted : (old new bytes out left : List ℕ) → new ≡ old ++ out → out ++ left ≡ bytes → Parted old new bytes left
parted old new bytes out left took whole = (
  length out,
  took ∙ ap (λ (l : List ℕ). old ++ l) (sym (take-append_seam out left) ∙ ap (take (length out)) whole),
  sym (drop-append_seam out left) ∙ ap (drop (length out)) whole,
)

all_parted : (old new bytes : List ℕ) → new ≡ old ++ bytes → Parted old new bytes []
all_parted old new bytes took = parted old new bytes bytes [] took (append-nil bytes)

pub putting_is_writing : PuttingIsWriting
putting_is_writing old new bytes is_last is_more (GoOn more) puts =
    let all = all_parted old new bytes puts.0 in
    (all.0, all.1, sym all.2)
putting_is_writing old new bytes is_last is_more (Rest u) puts =
    parted old new bytes puts.0.out (left_of u) puts.0.took puts.0.whole
putting_is_writing old new bytes is_last is_more End (inl all) =
    let part = all_parted old new bytes all.0 in
    (part.0, part.1, tt)
putting_is_writing old new bytes is_last is_more End (inr fails) = (fails.1.0, fails.1.1, tt)
