use Rattle.std.proofs.Common.{refl}
use Rattle.cast_client.specs.Reading.{cast_at}
use Rattle.cast_client.proofs.reading.read_cast.Goals as goal

pub returns : goal.returns
unfolding cast_at
returns c = rw (c.in_ok-tag.ensures, c.in_ok-group.ensures, c.in_ok-kind.ensures, c.in_ok-payload.ensures) refl
