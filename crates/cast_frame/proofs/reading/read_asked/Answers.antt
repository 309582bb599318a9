use Rattle.std.proofs.Common.{refl}
use Rattle.cast_frame.specs.Reading.{asked_at}
use Rattle.cast_frame.proofs.reading.read_asked.Goals as goal

pub returns : goal.returns
unfolding asked_at
returns c = rw (c.in_ok-group.ensures, c.in_ok-number.ensures, c.in_ok-code.ensures, c.in_ok-full.ensures) refl
