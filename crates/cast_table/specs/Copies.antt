-- What a copy of a table is.
use Rattle.std.specs.Prelude.{◌≡◌}
use Rattle.std.specs.List.{AllZip}
use Rattle.cast_domain.specs.Copies.{IsCopyOf as IsDomainCopy}
use Rattle.cast_table.specs.declared.table.Table.{Table}
use Rattle.cast_table.specs.Tables.{domains_of, shared_of}

-- each domain is a copy, in the same order, and they share the same
pub record IsCopyOf (table : Table) (copy : Table) : Type 0 where
  pub domains : AllZip IsDomainCopy (domains_of table) (domains_of copy)
  pub shared : shared_of copy ≡ shared_of table
