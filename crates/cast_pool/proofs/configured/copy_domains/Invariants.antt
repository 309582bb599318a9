use Rattle.std.proofs.Common.{◌≡◌, take}
use Rattle.cast_pool.proofs.configured.copy_domains.Given as goal

-- those so far
abbrev pub invariant-loop-config : goal.invariant-loop-config
invariant-loop-config l = l.copied.items ≡ take l.config-index l.configs
