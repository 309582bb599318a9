use Rattle.std.proofs.Common.{refl}
use Rattle.cast_field.specs.Reading.{site_at}
use Rattle.cast_field.proofs.reading.read_site.Goals as goal

pub returns : goal.returns
unfolding site_at
returns c = rw c.in_ok-number.ensures refl
