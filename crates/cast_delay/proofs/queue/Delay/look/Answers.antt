use Rattle.cast_delay.proofs.LookedAt.{rest_looked}
use Rattle.cast_delay.proofs.Passed.{unseen_seen}
use Rattle.cast_delay.proofs.queue.Delay.look.Goals as goal

-- what is kept of the others is known still
pub invariant_of-self : goal.invariant_of-self
invariant_of-self c =
    let d = c.self.inside in
    rw c.forget.ensures
    (record {
      settled = c.self.invariant.settled;
      looked = rest_looked d.gates d.rows d.offered d.waits c.args.process (λ q l apart is. c.self.invariant.looked q l is);
      lies = c.self.invariant.lies;
    })

-- what need not be looked at is settled, or was looked at
pub look-requires-clause-seen : goal.look-requires-clause-seen
look-requires-clause-seen c =
    let d = c.self.inside in
    unseen_seen d.gates d.rows d.offered d.settled d.waits c.args.process c.first_unseen_by-first.result c.self.invariant.settled
    c.first_unseen_by-first.ensures
