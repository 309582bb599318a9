use Rattle.cast_world.proofs.Bounding as lemma
use Rattle.cast_world.proofs.Counted as count
use Rattle.cast_world.proofs.laws.what_is_kept_is_bounded.Goals as goal

pub returns : goal.returns
returns c = record { uncovered = lemma.what_is_kept_is_bounded; counted = count.all_that_is_kept_is_counted }
