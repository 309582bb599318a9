use Rattle.cast_world.proofs.TokenRuns as lemma
use Rattle.cast_world.proofs.laws.tokens_are_held_once.Goals as goal

pub returns : goal.returns
returns c = record { once = lemma.tokens_are_held_once; rules = lemma.holders_hold_tokens }
