-- The first place that passes a test.
use Rattle.std.proofs.Common.{◌≡◌, ◌≤◌, Bool, List, [], ◌∷◌, length, refl, arith, inl, inr}
use Rattle.std.specs.Option.{unwrap_or}
use Rattle.std.specs.List.{position, position_or_len}
use Rattle.std.proofs.lemmas.Bool.{cases_Bool, cases_lt, lt-ltb, le-ltb}

pub position_or_len_within : {X : Type 0} (p : X → Bool) (xs : List X) → position_or_len p xs ≤ length xs
position_or_len_within p [] = omega arith
position_or_len_within p (x ∷ xs) =
    let rest = position_or_len_within p xs in
    elim (cases_Bool (p x)) [ inl passed ↦ rw passed (omega arith) | inr failed ↦ rw failed (omega (arith, rest)) ]

pub position_or_len_found : {X : Type 0} (p : X → Bool) (xs : List X) → unwrap_or (position p xs) (length xs) ≡ position_or_len p xs
position_or_len_found p xs =
    let within = position_or_len_within p xs in
    elim (cases_lt (position_or_len p xs) (length xs)) [
      | inl lt ↦ rw (lt-ltb _ _ lt) refl
      | inr le ↦ rw (le-ltb _ _ le) (omega (arith, within, le))
    ]
