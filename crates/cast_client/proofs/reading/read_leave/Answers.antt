use Rattle.std.proofs.Common.{refl}
use Rattle.cast_client.specs.Reading.{leave_at}
use Rattle.cast_client.proofs.reading.read_leave.Goals as goal

pub returns : goal.returns
unfolding leave_at
returns c = rw (c.in_ok-tag.ensures, c.in_ok-group.ensures) refl
