use Rattle.std.proofs.Common.{rules}
use Rattle.cast_client.specs.Reading.{client_frame_of}
use Rattle.cast_client.proofs.reading.read_client_frame.Goals as goal

pub returns : goal.returns
unfolding client_frame_of
returns c = search rules
