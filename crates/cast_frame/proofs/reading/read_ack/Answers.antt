use Rattle.std.proofs.Common.{refl}
use Rattle.cast_frame.specs.Reading.{ack_at}
use Rattle.cast_frame.proofs.reading.read_ack.Goals as goal

pub returns : goal.returns
unfolding ack_at
returns c = rw c.in_ok-id.ensures refl
