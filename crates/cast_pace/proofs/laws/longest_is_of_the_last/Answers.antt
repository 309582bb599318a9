use Rattle.cast_pace.proofs.Spans.{longest_is_of_the_last}
use Rattle.cast_pace.proofs.laws.longest_is_of_the_last.Goals as goal

pub returns : goal.returns
returns c = longest_is_of_the_last
