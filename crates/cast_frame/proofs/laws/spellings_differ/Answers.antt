use Rattle.cast_frame.proofs.Sizes.{spellings_differ}
use Rattle.cast_frame.proofs.laws.spellings_differ.Goals as goal

pub returns : goal.returns
returns c = spellings_differ
