use Rattle.std.proofs.Common.{◌≡◌, ◌++◌, drop}
use Rattle.cast_isolation.specs.Replays.{of_domain}
use Rattle.cast_isolation.proofs.replays.pushed_for.Given as goal

-- what was found, and what is left
abbrev pub invariant-loop-domain : goal.invariant-loop-domain
invariant-loop-domain l =
    l.own.pushed ++ of_domain l.number (drop l.domain-index l.pushed) ≡ of_domain l.number l.pushed
