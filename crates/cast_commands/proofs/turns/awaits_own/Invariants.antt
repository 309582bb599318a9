use Rattle.std.proofs.Common.{ℕ, ◌<◌}
use Rattle.cast_domain.specs.Records.{records_in}
use Rattle.cast_domain.specs.Own.{AwaitsNoneOf, source_at}
use Rattle.cast_commands.proofs.turns.awaits_own.Given as goal

-- none of those groups that were looked at
abbrev pub invariant-loop-place : goal.invariant-loop-place
invariant-loop-place l =
    (i : ℕ) → i < l.place → AwaitsNoneOf (records_in l.domain l.lent) l.process (source_at l.domain.groups.items i l.process)
