use Rattle.std.proofs.Common.{refl}
use Rattle.cast_field.specs.Reading.{entry_above}
use Rattle.cast_field.proofs.reading.read_entry_above.Goals as goal

pub returns : goal.returns
unfolding entry_above
returns c = rw (c.in_ok-proc.ensures, c.in_ok-count.ensures) refl
