use Rattle.cast_flush.proofs.Lacking.{needed_in_words, keeper_in_words}
use Rattle.cast_flush.proofs.laws.needed_is_the_rule_in_words.Goals as goal

pub returns : goal.returns
returns c = record { needed = needed_in_words; keeper = keeper_in_words }
