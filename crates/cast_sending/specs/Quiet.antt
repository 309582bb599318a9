-- What a site is sent over all that happens, in words.
use Rattle.std.specs.Prelude.{◌≡◌, ◌≤◌, ◌+◌, ◌&&◌, ◌||◌, ◌∷◌, [], ℕ, Bool, false, not, List, ⊤}
use Rattle.std.specs.Prelude.{Option, Some, None, if◌then◌else◌, nat_le, nat_lt, unwrap_or}
use Rattle.std.specs.Option.{option_map, option_map_or}
use Rattle.cast_sending.specs.declared.silence.Silence.{Silence}
use Rattle.cast_sending.specs.Silences.{new_silence, is_silent, ticked, acknowledged, Sends}

-- time goes by, the site acknowledges a message, or one is to be sent to it, and passes or not
pub data Happening : Type 0 where
  Tick : Happening
  Acknowledge : Happening
  Send : Bool → Happening

-- how many ticks there were since the first message behind its last acknowledgement was to be sent;
-- the latest happening comes first
abbrev pub ticks_since : List Happening → Option ℕ
ticks_since [] = None
ticks_since (Tick ∷ before) = option_map (λ ticks. ticks + 1) (ticks_since before)
ticks_since (Acknowledge ∷ before) = None
ticks_since (Send passes ∷ before) = Some (unwrap_or (ticks_since before) 0)

abbrev pub is_quiet : List Happening → Bool
is_quiet before = option_map_or (nat_le 50) (ticks_since before) false

-- how many messages passed since the last tick while the site was silent
abbrev pub passed_since : List Happening → ℕ
passed_since [] = 0
passed_since (Tick ∷ before) = 0
passed_since (Acknowledge ∷ before) = passed_since before
passed_since (Send passes ∷ before) =
    if passes && is_quiet before then passed_since before + 1 else passed_since before

-- a message passes where the site is not silent, or was sent less than two since the last tick
abbrev pub FollowTheRule : List Happening → Type 0
FollowTheRule [] = ⊤
FollowTheRule (Tick ∷ before) = FollowTheRule before
FollowTheRule (Acknowledge ∷ before) = FollowTheRule before
FollowTheRule (Send passes ∷ before) =
    (passes ≡ (not (is_quiet before) || nat_lt (passed_since before) 2)) × FollowTheRule before

-- what is known of the site then
abbrev pub IsAfter : List Happening → Silence → Type 0
IsAfter [] silence = silence ≡ new_silence
IsAfter (Tick ∷ before) silence = (old : Silence) × IsAfter before old × (silence ≡ ticked old)
IsAfter (Acknowledge ∷ before) silence =
    (old : Silence) × IsAfter before old × (silence ≡ acknowledged old)
IsAfter (Send passes ∷ before) silence =
    (old : Silence) × IsAfter before old × Sends old passes silence

abbrev pub SilentSitesAreSentFew : Type 0
SilentSitesAreSentFew =
    (happenings : List Happening) (silence : Silence) → IsAfter happenings silence
    → FollowTheRule happenings × (passed_since happenings ≤ 2)
    × (is_silent silence ≡ is_quiet happenings)
