use Rattle.cast_datagrams.proofs.Apart.{spellings_of_types_differ}
use Rattle.cast_datagrams.proofs.laws.spellings_of_types_differ.Goals as goal

pub returns : goal.returns
returns c = spellings_of_types_differ
