use Rattle.std.proofs.Common.{rules}
use Rattle.cast_client.specs.Reading.{length_at, length_of}
use Rattle.cast_client.proofs.reading.read_length.Goals as goal

pub returns-clause-exact : goal.returns-clause-exact
unfolding length_at length_of
returns-clause-exact c = search rules
