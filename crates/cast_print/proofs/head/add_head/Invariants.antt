use Rattle.std.proofs.Common.{◌≡◌, ◌++◌, drop}
use Rattle.std.specs.List.{flat_map}
use Rattle.std.specs.String.{string_bytes}
use Rattle.cast_print.specs.Scripts.{domain_text, head_text}
use Rattle.cast_print.proofs.head.add_head.Given as goal

-- what is written, and what is left
abbrev pub invariant-loop-domain : goal.invariant-loop-domain
invariant-loop-domain l =
    string_bytes l.lines ++ flat_map domain_text (drop l.domain-index l.config.domains) ≡ head_text l.config
