use Rattle.std.proofs.Common.{refl}
use Rattle.cast_field.specs.Reading.{atomic_at}
use Rattle.cast_field.proofs.reading.read_atomic.Goals as goal

pub returns : goal.returns
unfolding atomic_at
returns c = rw c.in_ok-payload.ensures refl
