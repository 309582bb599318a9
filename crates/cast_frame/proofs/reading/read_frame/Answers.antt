use Rattle.std.proofs.Common.{rules}
use Rattle.cast_frame.specs.Reading.{frame_at}
use Rattle.cast_frame.proofs.reading.read_frame.Goals as goal

pub returns : goal.returns
unfolding frame_at
returns c = search rules
