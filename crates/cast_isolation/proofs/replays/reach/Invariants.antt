use Rattle.std.proofs.Common.{◌≡◌, ◌++◌, replicate, []}
use Rattle.cast_isolation.proofs.replays.reach.Given as goal

-- so many empty lists were added
abbrev pub invariant-loop-more : goal.invariant-loop-more
invariant-loop-more l = l.sessions.items ≡ l.fn.sessions.items ++ replicate l._more []
