-- When events leave the trace.
use Rattle.std.specs.Prelude.{ℕ, Bool}
use Rattle.cast_pool.specs.declared.task.Outcome.{Outcome}
use Rattle.cast_pool.specs.declared.task.Task.{Task}
use Rattle.cast_pool.specs.Kept.{Seen}
use Rattle.cast_pool.specs.Served.{Completes, IsTrimmedIf}

-- the trace is trimmed, or nothing has changed
abbrev pub MayTrim : Seen → Seen → Type 0
MayTrim old new = (is_trimmed : Bool) × IsTrimmedIf is_trimmed old new

-- a job is done with this table, and behind it the trace may be trimmed
abbrev pub CompletesHere : Task → Bool → Outcome → Seen → Seen → ℕ → ℕ → Type 0
CompletesHere task may_trim outcome old new was now =
    (between : Seen) × Completes task may_trim outcome old between was now × MayTrim between new
