-- Processes that hold the token are gathered one by one.
use Rattle.std.proofs.Common.{◌≡◌, ℕ, ◌+◌, ◌<◌, ◌≤◌, true, false, List, [], ◌∷◌, ◌++◌}
use Rattle.std.proofs.Common.{length, drop, filter, map, refl, sym, ap, ◌∙◌, append_assoc}
use Rattle.std.specs.Prelude.{if◌then◌else◌, get_or}
use Rattle.std.proofs.lemmas.List.{append-nil, drop_more, drop_all}
use Rattle.cast_order.specs.Hand.{Hand}
use Rattle.cast_domain.specs.Records.{Records}
use Rattle.cast_domain.specs.PartCalls.{added_if}
use Rattle.cast_domain.specs.FlushCalls.{holds_here, holders_among}

-- one more, if it holds the token
pub one_gathered : (r : Records) (hands : List Hand) (so_far now : List ℕ) (i : ℕ) (h : Hand) → i < length hands → h ≡ get_or hands i h →
    now ≡ added_if (holds_here r h) h.process.serial so_far →
    now ++ holders_among r (drop (i + 1) hands) ≡ so_far ++ holders_among r (drop i hands)
one_gathered r hands so_far now i h within is made =
    ap (λ ks. ks ++ rest) made
    ∙ elim (holds_here r h) as (λ b. (if b then so_far ++ h.process.serial ∷ [] else so_far) ++ rest ≡ so_far ++ map (λ x. x.process.serial)
    (if b then h ∷ filter (holds_here r) (drop (i + 1) hands) else filter (holds_here r) (drop (i + 1) hands))) [
      | true ↦ append_assoc so_far (h.process.serial ∷ []) rest
      | false ↦ refl
    ]
    ∙ ap (λ hs. so_far ++ holders_among r hs) ((λ j. is j ∷ drop (i + 1) hands) ∙ sym (drop_more hands i h within))
  where
    rest : List ℕ
    rest = holders_among r (drop (i + 1) hands)

-- then none are left
pub all_gathered : (r : Records) (hands : List Hand) (so_far : List ℕ) (i : ℕ) → length hands ≤ i →
    so_far ++ holders_among r (drop i hands) ≡ so_far
all_gathered r hands so_far i past = ap (λ hs. so_far ++ holders_among r hs) (drop_all i hands past) ∙ append-nil so_far
