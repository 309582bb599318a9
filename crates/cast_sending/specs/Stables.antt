-- Stables that wait to be sent.
use Rattle.std.specs.Prelude.{◌≡◌, ◌⊎◌, ◌+◌, ◌-◌, ◌^◌, ℕ, Bool, List, [], ◌∷◌, ◌++◌, not}
use Rattle.std.specs.Prelude.{Option, Some, None, Contains, count_by, filter, length, min}
use Rattle.std.specs.Prelude.{slice_get}
use Rattle.std.specs.List.{list_any, list_all}
use Rattle.cast_types.specs.Names.{site_eq}
use Rattle.cast_sending.specs.Frames.{Frame, is_stable, is_other, Covers}

-- those that wait, and how many came since none waited, as far as a `u32` counts
pub record Waiting : Type 0 where
  pub frames : List Frame
  pub news : ℕ

abbrev pub none_waits : Waiting
none_waits = record { frames = []; news = 0 }

abbrev pub are_stables : List Frame → Bool
are_stables frames = list_all is_stable frames

-- the first and the second list have all of the third, each in its order
abbrev pub AreParted : List Frame → List Frame → List Frame → Type 0
AreParted own others [] = (own ≡ []) × (others ≡ [])
AreParted own others (frame ∷ all) =
    ((more : List Frame) × (own ≡ frame ∷ more) × AreParted more others all)
    ⊎ ((more : List Frame) × (others ≡ frame ∷ more) × AreParted own more all)

-- a Stable waits in the place of one that it covers
pub record TakesPlace (old : List Frame) (frame : Frame) (new : List Frame) : Type 0 where
  pub before : List Frame
  pub covered : Frame
  pub after : List Frame
  pub covers : Covers frame covered
  pub was : old ≡ before ++ covered ∷ after
  pub is : new ≡ before ++ frame ∷ after

-- it covers none of those that wait, and waits behind them
pub record WaitsLast (old : List Frame) (frame : Frame) (new : List Frame) : Type 0 where
  pub covers_none : (waits : Frame) → Contains old waits → Covers frame waits → ⊥
  pub is : new ≡ old ++ frame ∷ []

abbrev pub Waits : List Frame → Frame → List Frame → Type 0
Waits old frame new = TakesPlace old frame new ⊎ WaitsLast old frame new

-- each of these waits so, one after the other
abbrev pub AllWait : List Frame → List Frame → List Frame → Type 0
AllWait old [] new = new ≡ old
AllWait old (frame ∷ frames) new =
    (between : List Frame) × Waits old frame between × AllWait between frames new

-- the place of one that a frame covers; none if it covers none
abbrev pub IsPlaceOfCovered : List Frame → Frame → Option ℕ → Type 0
IsPlaceOfCovered waiting frame (Some place) =
    (covered : Frame) × (slice_get waiting place ≡ Some covered) × Covers frame covered
IsPlaceOfCovered waiting frame None =
    (waits : Frame) → Contains waiting waits → Covers frame waits → ⊥

-- frames come. But for so many that are lost, those that are no Stables go on, in order, and the
-- Stables wait
pub record Holds (old came went new : List Frame) (lost : ℕ) : Type 0 where
  pub kept : List Frame
  pub missing : List Frame
  pub parted : AreParted kept missing came
  pub counted : length missing ≡ lost
  pub others : went ≡ filter is_other kept
  pub stables : AllWait old (filter is_stable kept) new

-- something goes to the site of a frame
abbrev pub is_joined : List Frame → Frame → Bool
is_joined going frame = list_any (λ other. site_eq other.1 frame.1) going

-- frames are to go. But for so many that are lost, those that wait go behind them where something
-- goes to their site, and the others wait on, both in their order
pub record Joins (old going went new : List Frame) (lost : ℕ) : Type 0 where
  pub kept : List Frame
  pub missing : List Frame
  pub parted : AreParted kept missing old
  pub counted : length missing ≡ lost
  pub joined : went ≡ going ++ filter (is_joined going) kept
  pub others : new ≡ filter (λ frame. not (is_joined going frame)) kept

-- so many more came
abbrev pub news_with : ℕ → List Frame → ℕ
news_with news came = min (news + count_by is_stable came) (2 ^ 32 - 1)

-- none that wait, none came
abbrev pub news_left : ℕ → List Frame → ℕ
news_left news [] = 0
news_left news (frame ∷ frames) = news
