use Rattle.std.proofs.Common.{refl}
use Rattle.cast_field.specs.Reading.{clock_above}
use Rattle.cast_field.proofs.reading.read_clock_above.Goals as goal

pub returns : goal.returns
unfolding clock_above
returns c = rw (c.in_ok-group.ensures, c.in_ok-view.ensures, c.in_ok-counts.ensures) refl
