use Rattle.std.proofs.Common.{length}
use Rattle.cast_pool.proofs.configured.+is_rising.Given as goal

abbrev pub decreases-is_rising : goal.decreases-is_rising
decreases-is_rising l = length l.groups.now
