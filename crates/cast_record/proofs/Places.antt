-- The first place of a byte.
use Rattle.std.proofs.Common.{◌≡◌, ◌<◌, ◌≤◌, ℕ, Bool, true, false, cond, ltb, List, length, Some, None, refl}
use Rattle.std.specs.List.{position, position_or_len}
use Rattle.std.proofs.lemmas.Bool.{ltb-true, ltb-false}

found_at : (b : Bool) (at place : ℕ) → Some at ≡ cond b (Some place) None → (b ≡ true) × (at ≡ place)
found_at true at place e = (refl, cc)
found_at false at place e = absurd (cc)

not_found : (b : Bool) (place : ℕ) → None ≡ cond b (Some place) None → b ≡ false
not_found true place e = absurd (cc)
not_found false place e = refl

pub found : (p : ℕ → Bool) (xs : List ℕ) (at : ℕ) → Some at ≡ position p xs →
    (at ≡ position_or_len p xs) × (position_or_len p xs < length xs)
found p xs at e =
    let f = found_at (ltb (position_or_len p xs) (length xs)) at (position_or_len p xs) e in
    (f.1, ltb-true _ _ f.0)

pub none : (p : ℕ → Bool) (xs : List ℕ) → None ≡ position p xs → length xs ≤ position_or_len p xs
none p xs e = ltb-false _ _ (not_found (ltb (position_or_len p xs) (length xs)) (position_or_len p xs) e)
