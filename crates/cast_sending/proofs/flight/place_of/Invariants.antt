use Rattle.std.proofs.Common.{◌≢◌, ℕ, ◌<◌, get_or}
use Rattle.cast_sending.specs.declared.sent.Sent.{Sent}
use Rattle.cast_sending.proofs.flight.place_of.Given as goal

-- none of those before is of the id
abbrev pub invariant-loop-place : goal.invariant-loop-place
invariant-loop-place l = (k : ℕ) (d : Sent) → k < l.place → (get_or l.line.items k d).message.id ≢ l.id
