use Rattle.std.proofs.Common.{◌≡◌, length, arith, rules}
use Rattle.std.specs.Prelude.{◌==◌}
use Rattle.std.proofs.lemmas.Bool.{eqb-true, not-false}
use Rattle.cast_delay.specs.Settled.{AreSettled}
use Rattle.cast_delay.proofs.Admitted.{settled_may_not}
use Rattle.cast_delay.proofs.Queues.{none_means}
use Rattle.cast_delay.proofs.queue.Delay.is_settled.Goals as goal

-- a settled message is ready for no process
pub returns : goal.returns
returns c = λ process all.
    let q = c.args.self.now in
    let same = eqb-true c.self.inside.settled c.len.result (not-false (c.self.inside.settled == c.len.result) all) in
    let len : c.len.result ≡ length q.offered = search rules in
    let settled : AreSettled q.gates q.rows q.offered c.self.inside.settled = search (rules, c.self.invariant) in
    none_means q process (settled_may_not q c.self.inside.settled process settled (omega (arith, same, len)))
