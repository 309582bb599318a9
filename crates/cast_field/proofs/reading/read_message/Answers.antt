use Rattle.std.proofs.Common.{refl}
use Rattle.cast_field.specs.Reading.{message_at}
use Rattle.cast_field.proofs.reading.read_message.Goals as goal

pub returns : goal.returns
unfolding message_at
returns c = rw (c.in_ok-id.ensures, c.in_ok-kind.ensures, c.in_ok-times.ensures, c.in_ok-body.ensures) refl
