use Rattle.cast_delay.proofs.Words.{rule_in_words, turn_in_words}
use Rattle.cast_delay.proofs.laws.readiness_is_the_rule_in_words.Goals as goal

pub returns-clause-causally : goal.returns-clause-causally
returns-clause-causally c = rule_in_words

pub returns-clause-in_turn : goal.returns-clause-in_turn
returns-clause-in_turn c = turn_in_words
