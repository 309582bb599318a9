use Rattle.std.proofs.Common.{refl}
use Rattle.cast_client.specs.Reading.{closed_at}
use Rattle.cast_client.proofs.reading.read_closed.Goals as goal

pub returns : goal.returns
unfolding closed_at
returns c = rw c.in_ok-refusal.ensures refl
