use Rattle.cast_flush.proofs.Cuts.{cut_in_words}
use Rattle.cast_flush.proofs.laws.cut_is_the_rule_in_words.Goals as goal

pub returns : goal.returns
returns c = cut_in_words
