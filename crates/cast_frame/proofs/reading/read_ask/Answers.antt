use Rattle.std.proofs.Common.{refl}
use Rattle.cast_frame.specs.Reading.{ask_at}
use Rattle.cast_frame.proofs.reading.read_ask.Goals as goal

pub returns : goal.returns
unfolding ask_at
returns c =
    rw (c.in_ok-group.ensures, c.in_ok-number.ensures, c.in_ok-code.ensures, c.in_ok-proc.ensures, c.change_of_number-change.ensures) refl
