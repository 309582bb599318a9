use Rattle.cast_delay.proofs.Floors.{no_floor}
use Rattle.cast_delay.proofs.Passed.{admit_passed}
use Rattle.cast_delay.proofs.queue.Delay.admit.Goals as goal

pub invariant_of-self : goal.invariant_of-self
invariant_of-self c =
    admit_passed c.self.inside.gates c.self.inside.rows c.admit.new.self c.args.process c.self.inside.offered c.self.inside.settled
    c.self.inside.waits c.admit.result c.admit.ensures.ok c.admit.ensures.err c.self.inside.floor c.clear.new.self c.self.invariant
    (no_floor c.admit.new.self c.self.inside.offered c.clear.new.self c.clear.ensures.counts c.clear.ensures.groups)
