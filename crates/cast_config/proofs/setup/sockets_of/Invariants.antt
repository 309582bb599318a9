use Rattle.std.proofs.Common.{◌≡◌, ◌++◌, drop}
use Rattle.cast_config.specs.Documents.{sockets_of}
use Rattle.cast_config.proofs.setup.sockets_of.Given as goal

-- those that were passed, and those still to come
abbrev pub invariant-loop-domain : goal.invariant-loop-domain
invariant-loop-domain l = l.sockets ++ sockets_of (drop l.domain-index l.domains) ≡ sockets_of l.domains
