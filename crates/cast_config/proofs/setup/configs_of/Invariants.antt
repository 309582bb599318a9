use Rattle.std.proofs.Common.{◌≡◌, ◌++◌, drop}
use Rattle.cast_config.specs.Documents.{configs_of}
use Rattle.cast_config.proofs.setup.configs_of.Given as goal

-- those that were passed, and those still to come
abbrev pub invariant-loop-domain : goal.invariant-loop-domain
invariant-loop-domain l = l.configs ++ configs_of (drop l.domain-index l.domains) ≡ configs_of l.domains
