use Rattle.std.proofs.Common.{refl}
use Rattle.cast_field.specs.Reading.{order_at}
use Rattle.cast_field.proofs.reading.read_order.Goals as goal

pub returns : goal.returns
unfolding order_at
returns c = rw c.in_ok-placement.ensures refl
