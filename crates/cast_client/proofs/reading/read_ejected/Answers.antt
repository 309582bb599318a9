use Rattle.std.proofs.Common.{refl}
use Rattle.cast_client.specs.Reading.{ejected_at}
use Rattle.cast_client.proofs.reading.read_ejected.Goals as goal

pub returns : goal.returns
unfolding ejected_at
returns c = rw (c.in_ok-group.ensures, c.in_ok-view.ensures) refl
