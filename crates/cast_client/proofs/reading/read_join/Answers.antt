use Rattle.std.proofs.Common.{refl}
use Rattle.cast_client.specs.Reading.{join_at}
use Rattle.cast_client.proofs.reading.read_join.Goals as goal

pub returns : goal.returns
unfolding join_at
returns c = rw (c.in_ok-tag.ensures, c.in_ok-group.ensures) refl
