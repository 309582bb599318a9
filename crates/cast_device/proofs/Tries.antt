-- How often a writer may still be called.
use Rattle.std.proofs.Common.{ℕ, ◌+◌, ◌-◌, ◌*◌, Bool, cond}

-- each byte that is left may be taken after all but one interruptions in a row, and then a call may fail
abbrev pub tries_left : ℕ → Bool → ℕ → ℕ
tries_left rest failed interruptions = (rest + cond failed 0 1) * 4294967297 + (4294967296 - interruptions)
