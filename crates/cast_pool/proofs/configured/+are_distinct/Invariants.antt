use Rattle.std.proofs.Common.{length}
use Rattle.cast_pool.proofs.configured.+are_distinct.Given as goal

abbrev pub decreases-are_distinct : goal.decreases-are_distinct
decreases-are_distinct l = length l.configs.now
