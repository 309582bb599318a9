use Rattle.std.proofs.Common.{refl}
use Rattle.cast_client.specs.Reading.{view_at}
use Rattle.cast_client.proofs.reading.read_view.Goals as goal

pub returns : goal.returns
unfolding view_at
returns c = rw (c.in_ok-group.ensures, c.in_ok-view.ensures, c.in_ok-members.ensures) refl
