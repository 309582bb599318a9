use Rattle.std.proofs.Common.{refl}
use Rattle.cast_client.specs.Reading.{pass_at}
use Rattle.cast_client.proofs.reading.read_pass.Goals as goal

pub returns : goal.returns
unfolding pass_at
returns c = rw (c.in_ok-tag.ensures, c.in_ok-group.ensures, c.in_ok-to.ensures) refl
