-- How long acknowledgements take: the mean, the mean deviation, and the least time.
use Rattle.std.specs.Prelude.{◌+◌, ◌-◌, ◌/◌, ◌^◌, ℕ, if◌then◌else◌, max, min, nat_lt}

-- in units of an eighth and of a quarter of a tick
pub record Trip : Type 0 where
  pub mean : ℕ
  pub deviation : ℕ

-- the mean in whole ticks, rounded up
abbrev pub whole_mean : ℕ → ℕ
whole_mean mean = (mean + 7) / 8

abbrev pub distance : ℕ → ℕ → ℕ
distance a b = max (a - b) (b - a)

-- the mean moves by an eighth of what it lacks, and the deviation by a quarter; what is taken off
-- each of them is rounded up to whole ticks. A time counts as 2 ^ 60 ticks at most
abbrev pub trip_with : Trip → ℕ → Trip
trip_with trip ticks =
    let time = min ticks (2 ^ 60) in
    record {
      mean = trip.mean - whole_mean trip.mean + time;
      deviation =
          trip.deviation - (trip.deviation + 3) / 4 + distance time (whole_mean trip.mean);
    }

-- a message is late so many ticks after it was sent: the mean, and four mean deviations, or two
-- ticks if these are more
abbrev pub late_after : Trip → ℕ
late_after trip = whole_mean trip.mean + max trip.deviation 2

-- the least time in this span and in the one before, and how many there were in this one
pub record Times : Type 0 where
  pub now : ℕ
  pub before : ℕ
  pub count : ℕ

abbrev pub no_times : Times
no_times = record { now = 2 ^ 64 - 1; before = 2 ^ 64 - 1; count = 0 }

-- a span has 4,096 times
abbrev pub times_with : Times → ℕ → Times
times_with times micros =
    if nat_lt times.count 4096
    then record times { now = min times.now micros; count = times.count + 1 }
    else record { now = micros; before = times.now; count = 1 }

abbrev pub least_of : Times → ℕ
least_of times = min times.now times.before
