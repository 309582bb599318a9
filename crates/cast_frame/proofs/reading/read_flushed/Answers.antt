use Rattle.std.proofs.Common.{refl}
use Rattle.cast_frame.specs.Reading.{flushed_at}
use Rattle.cast_frame.proofs.reading.read_flushed.Goals as goal

pub returns : goal.returns
unfolding flushed_at
returns c = rw (c.in_ok-group.ensures, c.in_ok-view.ensures, c.in_ok-counts.ensures, c.in_ok-tail.ensures, c.in_ok-kept.ensures) refl
