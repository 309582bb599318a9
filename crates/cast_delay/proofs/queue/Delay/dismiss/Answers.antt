use Rattle.std.specs.Prelude.{filter, not}
use Rattle.cast_types.specs.Names.{proc_eq}
use Rattle.cast_delay.proofs.Floors.{no_floor}
use Rattle.cast_delay.proofs.Settled.{dismiss_settled}
use Rattle.cast_delay.proofs.Passed.{dismiss_looked}
use Rattle.cast_delay.proofs.queue.Delay.dismiss.Goals as goal

pub invariant_of-self : goal.invariant_of-self
invariant_of-self c =
    let d = c.self.inside in
    rw (c.dismiss.ensures, c.forget.ensures)
    (record {
      settled = dismiss_settled d.gates d.rows c.args.process d.offered d.settled c.self.invariant.settled;
      looked = dismiss_looked d.gates d.rows c.args.process d.offered d.waits c.self.invariant.looked;
      lies = no_floor (filter (λ r. not (proc_eq r.process c.args.process)) d.rows) d.offered c.clear.new.self c.clear.ensures.counts
          c.clear.ensures.groups;
    })
