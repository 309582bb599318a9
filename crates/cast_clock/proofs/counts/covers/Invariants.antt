use Rattle.std.proofs.Common.{◌≡◌, drop}
use Rattle.cast_clock.specs.News.{covers}
use Rattle.cast_clock.proofs.counts.covers.Given as goal

-- what is left of the counts decides
abbrev pub invariant-loop-process : goal.invariant-loop-process
invariant-loop-process l = covers l.mine (drop l.process-index l.theirs) ≡ covers l.mine l.theirs
