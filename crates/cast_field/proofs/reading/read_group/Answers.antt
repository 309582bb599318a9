use Rattle.std.proofs.Common.{refl}
use Rattle.cast_field.specs.Reading.{group_at}
use Rattle.cast_field.proofs.reading.read_group.Goals as goal

pub returns : goal.returns
unfolding group_at
returns c = rw c.in_ok-number.ensures refl
