-- Of which acknowledgements the longest least time is, in words.
use Rattle.std.specs.Prelude.{◌≡◌, ◌⊎◌, ◌<◌, ◌≤◌, ℕ, List, [], ◌∷◌, length, max, take}
use Rattle.cast_pace.specs.declared.speed.Slowest.{Slowest}
use Rattle.cast_pace.specs.Speeds.{longest_least, no_least, slowest_with}

-- 0, where there is none
abbrev pub greatest : List ℕ → ℕ
greatest [] = 0
greatest (n ∷ ns) = max n (greatest ns)

-- what is known once sites acknowledged that take so long at least; the latest comes first
abbrev pub slowest_after : List ℕ → Slowest
slowest_after [] = no_least
slowest_after (least ∷ before) = slowest_with (slowest_after before) least

-- it is the greatest of so many that came last: of all, or of more than 4,096 and no more than
-- 8,192
pub record IsLongestOfLast (leasts : List ℕ) (longest : ℕ) : Type 0 where
  pub count : ℕ
  pub within : count ≤ length leasts
  pub enough : (count ≡ length leasts) ⊎ (4096 < count)
  pub few : count ≤ 8192
  pub is : longest ≡ greatest (take count leasts)

abbrev pub LongestIsOfTheLast : Type 0
LongestIsOfTheLast =
    (leasts : List ℕ) → IsLongestOfLast leasts (longest_least (slowest_after leasts))
