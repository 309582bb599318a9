use Rattle.std.proofs.Common.{◌≡◌, ◌-◌, false}
use Rattle.cast_domain.specs.Records.{KeepsBeside, records_in}
use Rattle.cast_domain.proofs.Skipped.{IsRound}
use Rattle.cast_domain.specs.Freed.{AreNotFree}
use Rattle.cast_rest.proofs.rest.settle_each.Given as goal

-- the processes that are left lead to where the round leads
abbrev pub invariant-loop-place : goal.invariant-loop-place
invariant-loop-place l = record {
  stays : KeepsBeside l.fn.domain l.fn.lent l.domain l.lent;
  clear : AreNotFree (records_in l.fn.domain l.fn.lent) → AreNotFree (records_in l.domain l.lent);
  round : AreNotFree (records_in l.fn.domain l.fn.lent) →
      IsRound (records_in l.fn.domain l.fn.lent) (records_in l.domain l.lent) l.changed l.place;
  still : l.changed ≡ false → records_in l.domain l.lent ≡ records_in l.fn.domain l.fn.lent;
}

abbrev pub decreases-loop-place : goal.decreases-loop-place
decreases-loop-place l = l.count - l.place
