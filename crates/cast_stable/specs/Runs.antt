-- A set of counts from 1 on: all counts to some count, and further ones in rising order.
use Rattle.std.specs.Prelude.{ℕ, suc, ◌+◌, Bool, true, ◌&&◌, ◌||◌, ◌==◌, nat_lt}
use Rattle.std.specs.Prelude.{nat_le, max, if◌then◌else◌, List, [], ◌∷◌, drop}
use Rattle.std.specs.List.{fold, list_any}
use Rattle.std.specs.Ordering.{nat_cmp}
use Rattle.cast_types.specs.Sets.{with_item}

pub record Run : Type 0 where
  pub upto : ℕ
  pub above : List ℕ

abbrev pub no_counts : Run
no_counts = record { upto = 0; above = [] }

-- the list rises from above a count on
abbrev pub rises_above : ℕ → List ℕ → Bool
rises_above n [] = true
rises_above n (m ∷ ms) = nat_lt n m && rises_above m ms

-- the further counts rise, and the one after the run is not among them
abbrev pub is_run : Run → Bool
is_run r = rises_above (r.upto + 1) r.above

abbrev pub contains : Run → ℕ → Bool
contains r m = (nat_lt 0 m && nat_le m r.upto) || list_any (λ x. x == m) r.above

-- the greatest count, 0 of no counts
abbrev pub greatest : Run → ℕ
greatest r = fold max r.upto r.above

-- the last count of a run that goes on from n, and how many counts of the list it takes
abbrev pub run_after : ℕ → List ℕ → ℕ × ℕ
run_after n [] = (n, 0)
run_after n (m ∷ ms) = if m == n + 1 then ((run_after m ms).0, suc (run_after m ms).1) else (n, 0)

-- all counts to n, and further ones, of which those that follow n without a gap join the run
abbrev pub absorb : ℕ → List ℕ → Run
absorb n ms = record { upto = (run_after n ms).0; above = drop (run_after n ms).1 ms }

-- the set with a count in it
abbrev pub insert_count : Run → ℕ → Run
insert_count r m =
    if nat_le m r.upto then r
    else if m == r.upto + 1 then absorb m r.above
    else record r { above = with_item nat_cmp m r.above }
