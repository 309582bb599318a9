use Rattle.std.proofs.Common.{refl}
use Rattle.cast_client.specs.Reading.{replied_at}
use Rattle.cast_client.proofs.reading.read_replied.Goals as goal

pub returns : goal.returns
unfolding replied_at
returns c = rw (c.in_ok-tag.ensures, c.in_ok-refusal.ensures) refl
