use Rattle.std.proofs.Common.{refl}
use Rattle.cast_frame.specs.Reading.{data_at}
use Rattle.cast_frame.proofs.reading.read_data.Goals as goal

pub returns : goal.returns
unfolding data_at
returns c = rw c.in_ok-message.ensures refl
