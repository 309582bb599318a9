use Rattle.std.proofs.Common.{take}
use Rattle.std.specs.List.{AllZip}
use Rattle.cast_table.specs.Tables.{IsNew, by_number}
use Rattle.cast_table.proofs.table.Table.new.Given as goal

-- a new domain for each configuration so far
abbrev pub invariant-loop-domain : goal.invariant-loop-domain
invariant-loop-domain l = AllZip (IsNew l.config.site) (by_number (take l.domain-index l.domain-items)) l.domains.items
