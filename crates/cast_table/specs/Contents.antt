-- What a table has.
use Rattle.std.specs.Prelude.{List}
use Rattle.cast_domain.specs.declared.domain.Domain.{Domain}
use Rattle.cast_domain.specs.declared.shared.Shared.{Shared}

-- its domains, in order, and what they share
pub record Contents : Type 0 where
  pub domains : List Domain
  pub shared : Shared
