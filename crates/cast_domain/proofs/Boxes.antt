-- An outbox that is opened and gets its first entry.
use Rattle.std.proofs.Common.{◌≡◌, ℕ, true, false, List, [], ◌∷◌, ◌++◌, length, refl, ap, ◌∙◌}
use Rattle.std.specs.Prelude.{◌==◌, nat_le, if◌then◌else◌}
use Rattle.std.proofs.lemmas.Bool.{eq-eqb}
use Rattle.cast_types.specs.Sets.{set_at}
use Rattle.cast_message.specs.declared.client.Push.{Push}

abbrev set_box : (ℕ → List Push) → ℕ → List Push → ℕ → List Push
set_box boxes k entries = set_at (λ a b. a == b) boxes k entries

-- what is set stands there
box_set : (boxes : ℕ → List Push) (k : ℕ) (entries : List Push) → set_box boxes k entries k ≡ entries
box_set boxes k entries = ap (λ b. if b then entries else boxes k) (eq-eqb k k refl)

-- what is set twice is set once
box_twice : (boxes : ℕ → List Push) (k : ℕ) (first entries : List Push) →
    set_box (set_box boxes k first) k entries ≡ set_box boxes k entries
box_twice boxes k first entries = λ i j. at j i
  where
    at : (j : ℕ) → set_box (set_box boxes k first) k entries j ≡ set_box boxes k entries j
    at j = elim (k == j) as (λ b. (if b then entries else if b then first else boxes j) ≡ (if b then entries else boxes j)) [
      | true ↦ refl
      | false ↦ refl
    ]

-- an outbox that was opened has room for its first entry
pub box_begun : (boxes : ℕ → List Push) (k : ℕ) (slow entry : Push) (opened : ℕ → List Push) → opened ≡ set_box boxes k [] →
    set_box opened k (opened k ++ (if nat_le 1 (length (opened k)) then slow else entry) ∷ []) ≡ set_box boxes k (entry ∷ [])
box_begun boxes k slow entry opened is =
    (λ i. set_box (is i) k (is i k ++ (if nat_le 1 (length (is i k)) then slow else entry) ∷ []))
    ∙ ap (λ xs. set_box (set_box boxes k []) k (xs ++ (if nat_le 1 (length xs) then slow else entry) ∷ [])) (box_set boxes k [])
    ∙ box_twice boxes k [] (entry ∷ [])
