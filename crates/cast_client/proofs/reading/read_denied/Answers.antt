use Rattle.std.proofs.Common.{refl}
use Rattle.cast_client.specs.Reading.{denied_at}
use Rattle.cast_client.proofs.reading.read_denied.Goals as goal

pub returns : goal.returns
unfolding denied_at
returns c = rw (c.in_ok-group.ensures, c.in_ok-refusal.ensures) refl
