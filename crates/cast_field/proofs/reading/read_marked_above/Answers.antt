use Rattle.std.proofs.Common.{refl}
use Rattle.cast_field.specs.Reading.{marked_above}
use Rattle.cast_field.proofs.reading.read_marked_above.Goals as goal

pub returns : goal.returns
unfolding marked_above
returns c = rw (c.in_ok-id.ensures, c.in_ok-mark.ensures) refl
