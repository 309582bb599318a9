-- What a copy of a domain is.
use Rattle.std.specs.Prelude.{◌≡◌}
use Rattle.cast_events.specs.declared.event.Outs.{Outs}
use Rattle.cast_domain.specs.declared.domain.Domain.{Domain}
use Rattle.cast_domain.specs.Records.{is_halted, records_of}
use Rattle.cast_domain.specs.Shared.{Part}

-- it keeps the same records, and is halted where the other is
pub record IsCopyOf (d : Domain) (copy : Domain) : Type 0 where
  pub halted : is_halted copy ≡ is_halted d
  pub records : (part : Part) (o : Outs) → records_of copy part o ≡ records_of d part o
