use Rattle.std.proofs.Common.{refl}
use Rattle.cast_field.specs.Reading.{entry_at}
use Rattle.cast_field.proofs.reading.read_entry.Goals as goal

pub returns : goal.returns
unfolding entry_at
returns c = rw (c.in_ok-proc.ensures, c.in_ok-count.ensures) refl
