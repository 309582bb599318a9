use Rattle.std.proofs.Common.{◌≡◌}
use Rattle.cast_isolation.specs.Replays.{by_session, without_domain}
use Rattle.cast_isolation.proofs.replays.by_session.Given as goal

-- what the entries so far give
abbrev pub invariant-loop-serial : goal.invariant-loop-serial
invariant-loop-serial l = l.sessions.items ≡ by_session (without_domain l.yielded)
