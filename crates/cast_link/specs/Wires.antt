-- What a wire was given, and what waits in it, at types that tell of it.
use Rattle.std.specs.Prelude.{◌≡◌, ◌⊎◌, ℕ, List, [], ◌∷◌, ◌++◌, ⊤}
use Rattle.std.specs.Prelude.{Option, Some, None, Result, Ok, Err}
use Rattle.cast_link.specs.declared.wire.LinkFault.{LinkFault}
use Rattle.cast_link.specs.declared.wire.LinkFault.TheVariants.{Device, NoMemory}

-- a list that is known grows by this
abbrev pub Adds : {X : Type 0} → Option (List X) → Option (List X) → X → Type 0
Adds None new x = ⊤
Adds (Some old) None x = ⊥
Adds (Some old) (Some new) x = new ≡ old ++ x ∷ []

-- and by all of these
abbrev pub AddsAll : {X : Type 0} → Option (List X) → Option (List X) → List X → Type 0
AddsAll None new xs = ⊤
AddsAll (Some old) None xs = ⊥
AddsAll (Some old) (Some new) xs = new ≡ old ++ xs

-- a list that is known stays as it is
abbrev pub Stays : {X : Type 0} → Option (List X) → Option (List X) → Type 0
Stays None new = ⊤
Stays (Some old) None = ⊥
Stays (Some old) (Some new) = new ≡ old

-- the first of a list that is known is taken off
abbrev pub TakesFirst : {X : Type 0} → Option (List X) → Option (List X) → X → Type 0
TakesFirst None new x = ⊤
TakesFirst (Some old) None x = ⊥
TakesFirst (Some old) (Some new) x = old ≡ x ∷ new

-- no datagram is received. Where the device failed, what waits is what waited; where there was no
-- memory, the first may be lost
abbrev pub ReceivesNone : Option (List (List ℕ)) → Option (List (List ℕ)) → LinkFault → Type 0
ReceivesNone None new fault = ⊤
ReceivesNone (Some old) None fault = ⊥
ReceivesNone (Some old) (Some new) Device = new ≡ old
ReceivesNone (Some old) (Some new) NoMemory = (new ≡ old) ⊎ ((bytes : List ℕ) × (old ≡ bytes ∷ new))

-- what was received is the datagram that was first
abbrev pub Receives : Option (List (List ℕ)) → Option (List (List ℕ))
    → Result (List ℕ) LinkFault → Type 0
Receives old new (Ok bytes) = TakesFirst old new bytes
Receives old new (Err fault) = ReceivesNone old new fault
