-- How often something happened, and when that is reported.
use Rattle.std.specs.Prelude.{◌<◌, ◌≤◌, ◌+◌, ◌^◌, ◌-◌, ℕ, min, Option, Some, None}
use Rattle.cast_edge.specs.declared.count.Count.{Count}

abbrev pub none_counted : Count
none_counted = record { so_far = 0; reported = 0 }

-- so many times more, as far as there are numbers
abbrev pub more_of : Count → ℕ → ℕ
more_of count more = min (count.so_far + more) (2 ^ 64 - 1)

-- a power of ten is reached or passed since the last report
abbrev pub IsDue : Count → ℕ → Type 0
IsDue count so_far = (k : ℕ) × (count.reported < 10 ^ k) × (10 ^ k ≤ so_far)

-- so many times, of which this is reported now
abbrev pub counted : Count → ℕ → Option ℕ → Count
counted count so_far None = record count { so_far = so_far }
counted count so_far (Some n) = record { so_far = so_far; reported = n }
