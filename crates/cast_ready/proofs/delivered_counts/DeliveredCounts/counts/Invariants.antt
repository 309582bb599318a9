use Rattle.std.proofs.Common.{◌≡◌, ◌++◌, drop}
use Rattle.cast_ready.specs.DeliveredCounts.{counts_in}
use Rattle.cast_ready.proofs.delivered_counts.DeliveredCounts.counts.Given as goal

-- the counts so far with those of the sources that are left are all
abbrev pub invariant-loop-source : goal.invariant-loop-source
invariant-loop-source l = l.counts.items ++ counts_in l.group l.view (drop l.source-index l.fn.self) ≡ counts_in l.group l.view l.fn.self
