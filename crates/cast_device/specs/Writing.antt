-- What was written, where it may have stopped within.
use Rattle.std.specs.Prelude.{◌≡◌, ◌⊎◌, ℕ, List, ◌++◌, Option, Result, MatchResult}
use Rattle.std.specs.Io.KnownBytes.{Appends}

-- the list begins with these
abbrev pub IsBeginning : {X : Type 0} → List X → List X → Type 0
IsBeginning {X} front list = (rest : List X) × (list ≡ front ++ rest)

-- the writer has a beginning of the bytes more
pub record WrotePart (old new : Option (List ℕ)) (bytes : List ℕ) : Type 0 where
  pub out : List ℕ
  pub front : IsBeginning out bytes
  pub appended : Appends old new out

-- all of the bytes at `Ok`, and a beginning of them at `Err`
abbrev pub Writes : {T E : Type 0} → Option (List ℕ) → Option (List ℕ) → Result T E
    → List ℕ → Type 0
Writes old new result bytes =
    MatchResult result (λ _. Appends old new bytes) (λ _. WrotePart old new bytes)

-- a writer was told these bytes: it has all of them more, or a beginning of them where its calls
-- failed
abbrev pub IsTold : Option (List ℕ) → Option (List ℕ) → List ℕ → Type 0 → Type 0
IsTold old new bytes Failed = Appends old new bytes ⊎ (WrotePart old new bytes × Failed)
