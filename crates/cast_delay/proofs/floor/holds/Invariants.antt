use Rattle.std.proofs.Common.{take}
use Rattle.std.specs.List.{All}
use Rattle.cast_delay.specs.Floors.{IsUnder, Rises, IsBelow}
use Rattle.cast_delay.proofs.floor.holds.Given as goal

-- the counts lie under the rows and did not fall, and those of the clock so far are within them
abbrev pub invariant-loop-process : goal.invariant-loop-process
invariant-loop-process l = record {
  under : IsUnder l.counts l.rows;
  rises : Rises l.fn.counts l.counts;
  each : All (IsBelow l.counts l.group l.clock.view) (take l.process-index l.clock.counts);
}
