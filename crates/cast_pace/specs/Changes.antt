-- How often a window changes, over all that happens.
use Rattle.std.specs.Prelude.{◌≡◌, ◌<◌, ◌≤◌, ◌+◌, ◌++◌, ℕ, List, [], ◌∷◌, Bool, true, false}
use Rattle.cast_pace.specs.Speeds.{Flow, heard, new_flow}

-- a cast has to wait; or an acknowledgement comes that took so many microseconds, of a site that
-- takes so many at least
pub data Happening : Type 0 where
  Wait : Happening
  Hear : ℕ → ℕ → Happening

abbrev pub flow_with : Flow → Happening → Flow
flow_with flow Wait = record flow { has_waited = true }
flow_with flow (Hear micros least) = heard flow micros least

-- what is known after all this; the latest comes first
abbrev pub flow_after : ℕ → List Happening → Flow
flow_after delay [] = new_flow delay
flow_after delay (one ∷ before) = flow_with (flow_after delay before) one

abbrev pub window_after : ℕ → List Happening → ℕ
window_after delay happenings = (flow_after delay happenings).window

-- how many acknowledgements these are
abbrev pub acknowledgements : List Happening → ℕ
acknowledgements [] = 0
acknowledgements (Wait ∷ before) = acknowledgements before
acknowledgements (Hear micros least ∷ before) = acknowledgements before + 1

abbrev pub BecomesLess : ℕ → Happening → List Happening → Type 0
BecomesLess delay one before = window_after delay (one ∷ before) < window_after delay before

-- before the window becomes less, at least as many acknowledgements come as it has
abbrev pub AsManyComeFirst : Type 0
AsManyComeFirst =
    (delay : ℕ) (one : Happening) (before : List Happening) → BecomesLess delay one before
    → window_after delay before ≤ acknowledgements (one ∷ before)

-- and so it is between two times that it becomes less
abbrev pub AsManyComeBetween : Type 0
AsManyComeBetween =
    (delay : ℕ) (one other : Happening) (between before : List Happening)
    → BecomesLess delay other before
    → BecomesLess delay one (between ++ other ∷ before)
    → window_after delay (between ++ other ∷ before) ≤ acknowledgements (one ∷ between)

abbrev pub BecomesGreater : ℕ → Happening → List Happening → Type 0
BecomesGreater delay one before = window_after delay before < window_after delay (one ∷ before)

-- a cast had to wait
abbrev pub has_wait : List Happening → Bool
has_wait [] = false
has_wait (Wait ∷ before) = true
has_wait (Hear micros least ∷ before) = has_wait before

-- before the window becomes greater, a cast has to wait
abbrev pub AWaitComesFirst : Type 0
AWaitComesFirst =
    (delay : ℕ) (one : Happening) (before : List Happening) → BecomesGreater delay one before
    → has_wait before ≡ true

-- and so it is between two times that it becomes greater. If an acknowledgement was late so far, at
-- least as many acknowledgements come between as the window has
abbrev pub AWaitComesBetween : Type 0
AWaitComesBetween =
    (delay : ℕ) (one other : Happening) (between before : List Happening)
    → BecomesGreater delay other before
    → BecomesGreater delay one (between ++ other ∷ before)
    → (has_wait between ≡ true)
    × ((flow_after delay (between ++ other ∷ before)).was_late ≡ true
    → window_after delay (between ++ other ∷ before) ≤ acknowledgements (one ∷ between))
