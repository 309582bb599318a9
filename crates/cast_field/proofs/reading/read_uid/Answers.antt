use Rattle.std.proofs.Common.{refl}
use Rattle.cast_field.specs.Reading.{uid_at}
use Rattle.cast_field.proofs.reading.read_uid.Goals as goal

pub returns : goal.returns
unfolding uid_at
returns c = rw (c.in_ok-group.ensures, c.in_ok-view.ensures, c.in_ok-proc.ensures, c.in_ok-count.ensures) refl
