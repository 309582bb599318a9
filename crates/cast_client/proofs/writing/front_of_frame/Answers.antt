use Rattle.std.proofs.Common.{rules}
use Rattle.cast_field.specs.Spelling.{byte, word}
use Rattle.cast_client.proofs.writing.front_of_frame.Goals as goal

pub returns : goal.returns
unfolding byte word
returns c = search rules
