-- Lists that are known at some types only.
use Rattle.std.specs.Prelude.{◌≡◌, List, ◌++◌, ⊤, Option, Some, None}

-- a list that is known grows by these
abbrev pub Adds : {X : Type 0} → Option (List X) → Option (List X) → List X → Type 0
Adds None new xs = ⊤
Adds (Some old) None xs = ⊥
Adds (Some old) (Some new) xs = new ≡ old ++ xs

-- a fact of a list and of what it became, where they are known
abbrev pub Between : {X : Type 0} → Option (List X) → Option (List X)
    → (List X → List X → Type 0) → Type 0
Between None new P = ⊤
Between (Some old) None P = ⊥
Between (Some old) (Some new) P = P old new
