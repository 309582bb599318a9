-- What becomes of frames over all lists of moves.
use Rattle.std.specs.Prelude.{◌≡◌, ◌⊎◌, ◌≤◌, ◌+◌, Bool, List, [], ◌∷◌, ◌++◌}
use Rattle.std.specs.Prelude.{Contains, IsTrue, count_by, filter}
use Rattle.std.specs.List.{flat_map}
use Rattle.cast_sending.specs.Frames.{Frame, is_stable, is_other, Covers}
use Rattle.cast_sending.specs.Stables.{Holds, Joins}

-- frames come and are held, or are about to go and are joined, or all that wait are taken; and what
-- goes on then
pub data Move : Type 0 where
  Hold : List Frame → List Frame → Move
  Join : List Frame → List Frame → Move
  Take : List Frame → Move

abbrev pub came_in : Move → List Frame
came_in (Hold came went) = came
came_in (Join came went) = came
came_in (Take went) = []

abbrev pub gone_in : Move → List Frame
gone_in (Hold came went) = went
gone_in (Join came went) = went
gone_in (Take went) = went

abbrev pub all_came : List Move → List Frame
all_came moves = flat_map came_in moves

abbrev pub all_gone : List Move → List Frame
all_gone moves = flat_map gone_in moves

-- a move in which nothing is lost
abbrev pub IsMove : List Frame → Move → List Frame → Type 0
IsMove old (Hold came went) new = Holds old came went new 0
IsMove old (Join came went) new = Joins old came went new 0
IsMove old (Take went) new = (went ≡ old) × (new ≡ [])

abbrev pub AreMoves : List Frame → List Move → List Frame → Type 0
AreMoves old [] new = new ≡ old
AreMoves old (move ∷ moves) new =
    (between : List Frame) × IsMove old move between × AreMoves between moves new

-- one that covers this frame went in these moves, or waits after them
abbrev pub IsCovered : Frame → List Move → List Frame → Type 0
IsCovered frame moves waiting =
    (other : Frame) × Covers other frame
    × (Contains (all_gone moves) other ⊎ Contains waiting other)

-- each Stable that came is covered by one that went in the same move or after it, or waits
abbrev pub StablesAreCovered : Type 0
StablesAreCovered =
    (before after : List Move) (move : Move) (waiting : List Frame) (frame : Frame)
    → AreMoves [] (before ++ move ∷ after) waiting → Contains (came_in move) frame
    → IsTrue (is_stable frame) → IsCovered frame (move ∷ after) waiting

-- each other frame that came went on, once and in order
abbrev pub OthersGoOn : Type 0
OthersGoOn =
    (moves : List Move) (waiting : List Frame) → AreMoves [] moves waiting
    → filter is_other (all_gone moves) ≡ filter is_other (all_came moves)

-- nothing goes that did not come, and nothing more often than it came
abbrev pub NothingIsMadeUp : Type 0
NothingIsMadeUp =
    (moves : List Move) (waiting : List Frame) → AreMoves [] moves waiting
    → ((frame : Frame) → Contains (all_gone moves) frame → Contains (all_came moves) frame)
    × ((test : Frame → Bool)
    → count_by test (all_gone moves) + count_by test waiting
    ≤ count_by test (all_came moves))
