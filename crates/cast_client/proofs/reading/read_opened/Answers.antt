use Rattle.std.proofs.Common.{refl}
use Rattle.cast_client.specs.Reading.{opened_at}
use Rattle.cast_client.proofs.reading.read_opened.Goals as goal

pub returns : goal.returns
unfolding opened_at
returns c = rw c.in_ok-proc.ensures refl
