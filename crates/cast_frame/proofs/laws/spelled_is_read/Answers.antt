use Rattle.cast_frame.proofs.Sizes.{spelled_is_read}
use Rattle.cast_frame.proofs.laws.spelled_is_read.Goals as goal

pub returns : goal.returns
returns c = spelled_is_read
