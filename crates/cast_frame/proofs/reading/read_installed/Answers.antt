use Rattle.std.proofs.Common.{refl}
use Rattle.cast_frame.specs.Reading.{installed_at}
use Rattle.cast_frame.proofs.reading.read_installed.Goals as goal

pub returns : goal.returns
unfolding installed_at
returns c = rw (c.in_ok-group.ensures, c.in_ok-view.ensures) refl
