use Rattle.std.proofs.Common.{◌≡◌, Contains}
use Rattle.cast_types.specs.declared.names.GroupNo.{GroupNo}
use Rattle.cast_delay.specs.Floors.{IsUnder}
use Rattle.cast_delay.proofs.Floors.{IsTaken}
use Rattle.cast_delay.proofs.floor.Floor.look.Given as goal

-- the counts lie under the rows, and each group that is kept is one of those so far, and within
abbrev pub invariant-loop-group : goal.invariant-loop-group
invariant-loop-group l = record {
  under : IsUnder l.self.counts l.rows;
  kept : (g : GroupNo) → Contains l.self.groups.items g → IsTaken l.self.counts l.times g;
  key : l.self.key ≡ l.fn.key;
}
