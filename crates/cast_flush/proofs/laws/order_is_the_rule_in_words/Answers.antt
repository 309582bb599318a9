use Rattle.cast_flush.proofs.Lacking.{unplaced_in_words}
use Rattle.cast_flush.proofs.Ends.{longest_in_words, order_is_whole, order_is_within}
use Rattle.cast_flush.proofs.laws.order_is_the_rule_in_words.Goals as goal

pub returns : goal.returns
returns c = record {
  longest = longest_in_words;
  unplaced = unplaced_in_words;
  whole = order_is_whole;
  within = order_is_within;
}
