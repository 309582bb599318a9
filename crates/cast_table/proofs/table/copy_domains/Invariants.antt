use Rattle.std.proofs.Common.{take}
use Rattle.std.specs.List.{AllZip}
use Rattle.cast_domain.specs.Copies.{IsCopyOf}
use Rattle.cast_table.proofs.table.copy_domains.Given as goal

-- those so far
abbrev pub invariant-loop-domain : goal.invariant-loop-domain
invariant-loop-domain l = AllZip IsCopyOf (take l.domain-index l.domains.items) l.copied.items
