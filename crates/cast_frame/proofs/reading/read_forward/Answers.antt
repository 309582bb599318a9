use Rattle.std.proofs.Common.{refl}
use Rattle.cast_frame.specs.Reading.{forward_at}
use Rattle.cast_frame.proofs.reading.read_forward.Goals as goal

pub returns : goal.returns
unfolding forward_at
returns c = rw c.in_ok-message.ensures refl
