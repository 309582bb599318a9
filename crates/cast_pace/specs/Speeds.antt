-- How many casts of a domain may be on their way, by the time that acknowledgements take.
use Rattle.std.specs.Prelude.{◌+◌, ◌-◌, ◌/◌, ◌||◌, ℕ, Bool, true, false, not}
use Rattle.std.specs.Prelude.{if◌then◌else◌, max, min, nat_le, nat_lt}
use Rattle.cast_pace.specs.declared.speed.Slowest.{Slowest}

-- no acknowledgement came
abbrev pub no_least : Slowest
no_least = record { now = 0; before = 0; count = 0 }

-- one came of a site that takes so long at least. A span has 4,096 of them
abbrev pub slowest_with : Slowest → ℕ → Slowest
slowest_with slowest least =
    if nat_lt slowest.count 4096
    then record slowest { now = max slowest.now least; count = slowest.count + 1 }
    else record { now = least; before = slowest.now; count = 1 }

-- the longest of the times that sites take at least, in this span and in the one before
abbrev pub longest_least : Slowest → ℕ
longest_least slowest = max slowest.now slowest.before

-- what decides how many casts of a domain may be on their way
pub record Flow : Type 0 where
  -- for how many microseconds casts may queue
  pub delay : ℕ
  -- how many may be on their way
  pub window : ℕ
  pub slowest : Slowest
  -- an acknowledgement was late
  pub was_late : Bool
  -- a cast had to wait since the window grew
  pub has_waited : Bool
  -- how many acknowledgements came since the window became less, counted up to 65,536
  pub since_less : ℕ
  -- how many came in time, where a cast had to wait before them, since the window grew and since
  -- the last late one
  pub in_time : ℕ

abbrev pub new_flow : ℕ → Flow
new_flow delay =
    record {
      delay = delay;
      window = 16;
      slowest = no_least;
      was_late = false;
      has_waited = false;
      since_less = 0;
      in_time = 0;
    }

-- an acknowledgement is late if it took longer than the sum of what its site takes at least, half
-- of what the slowest site takes at least, and the time for which casts may queue
abbrev pub is_late : Flow → ℕ → ℕ → Bool
is_late flow micros least = nat_lt (longest_least flow.slowest / 2 + flow.delay) (micros - least)

-- less by an eighth and one, and at least 4
abbrev pub less_window : ℕ → ℕ
less_window window = max (window - (window / 8 + 1)) 4

-- an acknowledgement was late. The window becomes less only once for as many acknowledgements as it
-- has
abbrev pub heard_late : Flow → Flow
heard_late flow =
    let late = record flow { was_late = true; in_time = 0 } in
    if nat_le flow.window flow.since_less
    then record late { window = less_window flow.window; since_less = 0 }
    else late

-- with one more in time the window may grow: none was late so far, or as many as it has came in
-- time
abbrev pub may_grow : Flow → Bool
may_grow flow = not flow.was_late || nat_le flow.window (flow.in_time + 1)

-- one more, at most 65,536
abbrev pub more_window : ℕ → ℕ
more_window window = min (window + 1) 65536

-- an acknowledgement was in time. It counts only where a cast had to wait since the window grew
abbrev pub heard_in_time : Flow → Flow
heard_in_time flow =
    if not flow.has_waited
    then flow
    else if may_grow flow
    then record flow { window = more_window flow.window; has_waited = false; in_time = 0 }
    else record flow { in_time = flow.in_time + 1 }

-- one more came, of a site that takes so long at least
abbrev pub counted : Flow → ℕ → Flow
counted flow least =
    record flow {
      slowest = slowest_with flow.slowest least;
      since_less = min (flow.since_less + 1) 65536;
    }

-- one took so many microseconds
abbrev pub heard : Flow → ℕ → ℕ → Flow
heard flow micros least =
    if is_late (counted flow least) micros least
    then heard_late (counted flow least)
    else heard_in_time (counted flow least)
