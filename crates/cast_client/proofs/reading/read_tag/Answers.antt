use Rattle.cast_client.specs.Reading.{tag_at}
use Rattle.cast_client.proofs.reading.read_tag.Goals as goal

pub returns : goal.returns
unfolding tag_at
returns c = c.read_word.ensures
