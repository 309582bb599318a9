use Rattle.cast_clock.proofs.Joins.{count_of-join_counts, clock_of-join}
use Rattle.cast_clock.proofs.laws.join_is_pointwise.Goals as goal

pub returns-clause-counts : goal.returns-clause-counts
returns-clause-counts c = count_of-join_counts

pub returns-clause-clocks : goal.returns-clause-clocks
returns-clause-clocks c = clock_of-join
