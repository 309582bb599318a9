use Rattle.std.proofs.Common.{refl}
use Rattle.cast_frame.specs.Reading.{want_at}
use Rattle.cast_frame.proofs.reading.read_want.Goals as goal

pub returns : goal.returns
unfolding want_at
returns c = rw c.in_ok-id.ensures refl
