-- The casts that follow a message, by the keys under which a site keeps them.
-- Keys rise as messages are received.
use Rattle.std.specs.Prelude.{◌≡◌, ◌⊎◌, ℕ, ◌<◌, ◌≤◌, Bool, true, false, ◌++◌, List, [], ◌∷◌, length}
use Rattle.std.specs.Prelude.{Option, Some, None, IfSome, filter, nat_le, nat_lt}
use Rattle.cast_index.specs.Rises.{rises}

-- each key is below all behind it
abbrev pub KeysRise : List ℕ → Type 0
KeysRise casts = rises (λ k. k) casts ≡ true

-- how many of these were received after the message under a key
abbrev pub following : ℕ → List ℕ → ℕ
following key casts = length (filter (λ k. nat_lt key k) casts)

-- the casts and one more are remembered: all of them, or all but the earliest where they are more
-- than may be
abbrev pub Remembers : ℕ → ℕ → List ℕ → List ℕ → Type 0
Remembers key most old new =
    ((new ≡ old ++ key ∷ []) × (length new ≤ most))
    ⊎ ((earliest : ℕ) × (old ++ key ∷ [] ≡ earliest ∷ new) × (most ≤ length new))

-- a cast waits for a message, and none is kept that is older than this one: by its key, and by that
-- of the oldest that is kept
abbrev pub may_go_on : Option ℕ → Option ℕ → Bool
may_go_on None oldest = false
may_go_on (Some awaited) None = true
may_go_on (Some awaited) (Some oldest) = nat_le awaited oldest

-- fewer casts than the window of a cast has follow the message that it waits for. Once the cast may
-- go on, fewer than that follow the oldest message that is kept
abbrev pub WhoGoesOnHasRoom : Type 0
WhoGoesOnHasRoom =
    (casts : List ℕ) (window awaited : ℕ) (oldest : Option ℕ) → following awaited casts < window
    → may_go_on (Some awaited) oldest ≡ true
    → IfSome oldest (λ key. following key casts < window)
