use Rattle.cast_world.proofs.ListsAreActs as lemma
use Rattle.cast_world.proofs.laws.lists_are_acts.Goals as goal

pub returns : goal.returns
returns c = record { delivered = lemma.lists_are_acts; abcasts = lemma.abcasts_are_acts }
