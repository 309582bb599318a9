use Rattle.std.proofs.Common.{refl}
use Rattle.cast_field.specs.Reading.{proc_at}
use Rattle.cast_field.proofs.reading.read_proc.Goals as goal

pub returns : goal.returns
unfolding proc_at
returns c = rw (c.in_ok-site.ensures, c.in_ok-serial.ensures) refl
