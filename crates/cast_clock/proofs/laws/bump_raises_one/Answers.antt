use Rattle.cast_clock.proofs.Raised.{bump_raises, bump_leaves_counts, bump_leaves_views}
use Rattle.cast_clock.proofs.laws.bump_raises_one.Goals as goal

pub returns-clause-raised : goal.returns-clause-raised
returns-clause-raised c = bump_raises

pub returns-clause-other_counts : goal.returns-clause-other_counts
returns-clause-other_counts c = bump_leaves_counts

pub returns-clause-views : goal.returns-clause-views
returns-clause-views c = bump_leaves_views
