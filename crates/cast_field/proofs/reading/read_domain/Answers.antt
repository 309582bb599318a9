use Rattle.std.proofs.Common.{refl}
use Rattle.cast_field.specs.Reading.{domain_at}
use Rattle.cast_field.proofs.reading.read_domain.Goals as goal

pub returns : goal.returns
unfolding domain_at
returns c = rw c.in_ok-number.ensures refl
