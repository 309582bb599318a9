use Rattle.std.proofs.Common.{refl}
use Rattle.cast_field.specs.Reading.{causal_at}
use Rattle.cast_field.proofs.reading.read_causal.Goals as goal

pub returns : goal.returns
unfolding causal_at
returns c = rw c.in_ok-payload.ensures refl
