use Rattle.std.proofs.Common.{refl}
use Rattle.cast_frame.specs.Reading.{stable_at}
use Rattle.cast_frame.proofs.reading.read_stable.Goals as goal

pub returns : goal.returns
unfolding stable_at
returns c = rw c.in_ok-id.ensures refl
