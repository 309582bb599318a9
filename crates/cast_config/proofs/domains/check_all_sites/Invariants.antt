use Rattle.std.proofs.Common.{◌≡◌, drop}
use Rattle.cast_config.specs.Documents.{placed}
use Rattle.cast_config.specs.Fields.{all_pass}
use Rattle.cast_config.proofs.domains.check_all_sites.Given as goal

-- what is still tested decides
abbrev pub invariant-loop-domain : goal.invariant-loop-domain
invariant-loop-domain l =
    all_pass (placed l.sites) (drop l.domain-index l.domains) ≡ all_pass (placed l.sites) l.domains
