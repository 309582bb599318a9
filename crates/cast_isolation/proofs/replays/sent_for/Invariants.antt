use Rattle.std.proofs.Common.{◌≡◌, ◌++◌, drop}
use Rattle.cast_isolation.specs.Replays.{frames_of}
use Rattle.cast_isolation.proofs.replays.sent_for.Given as goal

-- what was found, and what is left
abbrev pub invariant-loop-domain : goal.invariant-loop-domain
invariant-loop-domain l =
    l.sent ++ frames_of l.number (drop l.domain-index l.frames) ≡ frames_of l.number l.frames
