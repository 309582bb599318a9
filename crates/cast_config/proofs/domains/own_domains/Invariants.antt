use Rattle.std.proofs.Common.{◌≡◌}
use Rattle.cast_config.specs.Documents.{own_domains}
use Rattle.cast_config.proofs.domains.own_domains.Given as goal

-- of those that were looked at, those that the site has
abbrev pub invariant-loop-domain : goal.invariant-loop-domain
invariant-loop-domain l = l.kept ≡ own_domains l.own l.yielded
