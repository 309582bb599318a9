use Rattle.std.proofs.Common.{refl}
use Rattle.cast_client.specs.Reading.{deliver_at}
use Rattle.cast_client.proofs.reading.read_deliver.Goals as goal

pub returns : goal.returns
unfolding deliver_at
returns c = rw (c.in_ok-id.ensures, c.in_ok-kind.ensures, c.in_ok-payload.ensures) refl
