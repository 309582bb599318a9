use Rattle.std.proofs.Common.{refl}
use Rattle.cast_frame.specs.Reading.{prepare_at}
use Rattle.cast_frame.proofs.reading.read_prepare.Goals as goal

pub returns : goal.returns
unfolding prepare_at
returns c = rw (c.in_ok-group.ensures, c.in_ok-view.ensures) refl
