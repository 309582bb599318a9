use Rattle.cast_view.proofs.Rooms.{among_decided}
use Rattle.cast_view.proofs.laws.members_are_the_rule_in_words.Goals as goal

pub returns : goal.returns
returns c = among_decided
