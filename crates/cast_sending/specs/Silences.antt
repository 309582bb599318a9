-- Sites that do not answer, and how much they are sent.
use Rattle.std.specs.Prelude.{◌≡◌, ◌≢◌, ◌+◌, ◌-◌, ◌^◌, ◌||◌, ◌<◌, ◌∷◌, [], ℕ, length, Bool, true}
use Rattle.std.specs.Prelude.{false, not, List, Contains, IsTrue}
use Rattle.std.specs.Prelude.{Option, Some, None, MatchOption, if◌then◌else◌, MatchBool, min}
use Rattle.std.specs.Prelude.{nat_le, nat_lt, unwrap_or}
use Rattle.std.specs.List.{slice_index_or}
use Rattle.std.specs.Option.{option_map, option_map_or}
use Rattle.cast_types.specs.declared.names.SiteNo.{SiteNo}
use Rattle.cast_types.specs.Names.{site_eq}
use Rattle.cast_message.specs.declared.site.SiteFrame.{SiteFrame}
use Rattle.cast_message.specs.declared.site.SiteFrame.TheVariants.{Data}
use Rattle.cast_sending.specs.declared.silence.Silence.{Silence}
use Rattle.cast_sending.specs.Frames.{Frame}
use Rattle.cast_sending.specs.Stables.{AreParted}

-- it was sent nothing
abbrev pub new_silence : Silence
new_silence = record { waited = None; room = 2 }

-- it has acknowledged nothing for 50 ticks since it was sent the first message behind its last
-- acknowledgement
abbrev pub is_silent : Silence → Bool
is_silent silence = option_map_or (nat_le 50) silence.waited false

-- one tick more; at each a silent site may be sent two messages
abbrev pub ticked : Silence → Silence
ticked silence =
    record { waited = option_map (λ ticks. min (ticks + 1) (2 ^ 32 - 1)) silence.waited; room = 2 }

abbrev pub acknowledged : Silence → Silence
acknowledged silence = record silence { waited = None }

-- a message is to be sent, and passes or not: to a silent site only where there is room for it
pub record Sends (old : Silence) (passes : Bool) (new : Silence) : Type 0 where
  pub waits : new.waited ≡ Some (unwrap_or old.waited 0)
  pub passed : passes ≡ (not (is_silent old) || nat_lt 0 old.room)
  pub room : new.room ≡ (if is_silent old then old.room - 1 else old.room)

-- what is known of sites
abbrev pub Known : Type 0
Known = List (SiteNo × Silence)

abbrev pub silence_of : Known → SiteNo → Option Silence
silence_of [] site = None
silence_of (one ∷ others) site =
    if site_eq one.0 site then Some one.1 else silence_of others site

-- the place of the first that is known of a site; none if nothing is
abbrev pub IsPlace : Known → SiteNo → Option ℕ → Type 0
IsPlace known site (Some place) =
    (place < length known)
    × ((d : SiteNo × Silence) → IsTrue (site_eq (slice_index_or known place d).0 site))
    × ((k : ℕ) (d : SiteNo × Silence) → k < place →
    site_eq (slice_index_or known k d).0 site ≡ false)
IsPlace known site None =
    (k : ℕ) (d : SiteNo × Silence) → k < length known →
    site_eq (slice_index_or known k d).0 site ≡ false

-- what is known of one site changes so, and of the others nothing
pub record OnlyChanges (old : Known) (site : SiteNo) (silence : Silence) (new : Known)
    : Type 0 where
  pub changed : silence_of new site ≡ Some silence
  pub others : (other : SiteNo) → other ≢ site → silence_of new other ≡ silence_of old other

-- a message for a site passes or not
abbrev pub MaySend : Known → SiteNo → Bool → Known → Type 0
MaySend old site passes new =
    MatchOption (silence_of old site) ((passes ≡ true) × (new ≡ old))
    (λ silence. (after : Silence) × Sends silence passes after × OnlyChanges old site after new)

-- a site acknowledged a message
abbrev pub Ends : Known → SiteNo → Known → Type 0
Ends old site new =
    MatchOption (silence_of old site) (new ≡ old)
    (λ silence. OnlyChanges old site (acknowledged silence) new)

abbrev pub carries_message : SiteFrame → Bool
carries_message (Data message) = true
carries_message _ = false

-- what is no message passes
abbrev pub MayPass : Known → Frame → Bool → Known → Type 0
MayPass old frame passes new =
    MatchBool (carries_message frame.2) (MaySend old frame.1 passes new) ((passes ≡ true)
    × (new ≡ old))

-- those that pass, one after the other
abbrev pub Pass : Known → List Frame → List Frame → Known → Type 0
Pass old [] went new = (went ≡ []) × (new ≡ old)
Pass old (frame ∷ frames) went new =
    (passes : Bool) × (between : Known) × (more : List Frame)
    × MayPass old frame passes between
    × Pass between frames more new
    × (went ≡ (if passes then frame ∷ more else more))

abbrev pub is_silent_site : Known → SiteNo → Bool
is_silent_site known site = option_map_or is_silent (silence_of known site) false

-- but for messages for silent sites all pass, in their order
pub record OnlySilentWait (known : Known) (came went : List Frame) : Type 0 where
  pub left : List Frame
  pub parted : AreParted went left came
  pub silent : (frame : Frame) → Contains left frame
      → IsTrue (carries_message frame.2) × IsTrue (is_silent_site known frame.1)
