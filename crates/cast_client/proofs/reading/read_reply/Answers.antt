use Rattle.std.proofs.Common.{refl}
use Rattle.cast_client.specs.Reading.{reply_at}
use Rattle.cast_client.proofs.reading.read_reply.Goals as goal

pub returns : goal.returns
unfolding reply_at
returns c = rw (c.in_ok-number.ensures, c.from_number.ensures) refl
