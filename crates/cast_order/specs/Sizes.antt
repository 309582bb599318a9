-- How many ids the log of a group's order keeps.
use Rattle.std.specs.Prelude.{◌≡◌, ◌≤◌, ℕ, ◌+◌, Bool, true, List, length}
use Rattle.cast_types.specs.declared.limits.TheConstants.{MAX_PLACED}
use Rattle.cast_types.specs.declared.names.GroupNo.{GroupNo}
use Rattle.cast_types.specs.Names.{Entry}
use Rattle.cast_message.specs.Placement.{Placement, is_placement}
use Rattle.cast_order.specs.Order.{facts_of}
use Rattle.cast_order.specs.Log.{Log, new_log, with_placement, closed_by, forgot}

-- how many ids a log keeps: those of the order known that are not forgotten, and those of places
-- past a gap; what is kept of processes is not counted, and its changes leave the ids as they are
abbrev pub size : Log → ℕ
size l = length l.window + length l.later

-- a new log keeps none
abbrev pub NewKeepsNone : Type 0
NewKeepsNone = (g : GroupNo) → size (new_log g) ≡ 0

-- a set-order message adds at most the ids that it tells
abbrev pub LearnAddsItsFacts : Type 0
LearnAddsItsFacts =
    (s : Placement) (l : Log) → size (with_placement s l) ≤ size l + length (facts_of s)

-- which are at most as many as one message may set
abbrev pub PlacementTellsFew : Type 0
PlacementTellsFew =
    (s : Placement) → is_placement s ≡ true → length (facts_of s) ≤ MAX_PLACED

-- the end of the order adds at most the ids that are told with it
abbrev pub CloseAddsItsIds : Type 0
CloseAddsItsIds =
    (is_within : Entry → Bool) (start : ℕ) (ids : List Entry) (l : Log)
    → size (closed_by is_within start ids l) ≤ size l + length ids

-- where first ids are forgotten, none is added
abbrev pub ForgetAddsNone : Type 0
ForgetAddsNone = (count : ℕ) (l : Log) → size (forgot count l) ≤ size l
