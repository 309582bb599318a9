-- Room for one more entry of a trace, and what the trace is behind it.
use Rattle.std.specs.Prelude.{◌≡◌, ℕ, ◌+◌, ◌<◌, nat_le, Bool, false, if◌then◌else◌}
use Rattle.std.specs.Prelude.{List, [], length}
use Rattle.std.specs.Vec.{vec_capacity}
use Rattle.cast_trail.specs.declared.trail.Trail.{Trail}

-- a trace of so many events is trimmed before one more
abbrev pub is_due : ℕ → Bool
is_due len = nat_le 4096 len

-- the entry has a place in the vector: behind the others, or, once those are over, instead of them
abbrev pub HasPlace : Trail → Type 0
HasPlace trail =
    is_due (length trail.entries.items) ≡ false
    → length trail.entries.items < vec_capacity trail.entries

-- the events that stay before one more
abbrev pub items_then : {X : Type 0} → List X → List X
items_then items = if is_due (length items) then [] else items

-- how many events were taken before those
abbrev pub count_then : ℕ → ℕ → ℕ
count_then count len = if is_due len then count + len else count
