use Rattle.std.specs.Prelude.{not}
use Rattle.cast_message.specs.Receipts.{key_eq}
use Rattle.cast_delay.proofs.Floors.{fewer_floor}
use Rattle.cast_delay.proofs.Settled.{forget_settled}
use Rattle.cast_delay.proofs.Passed.{forget_looked}
use Rattle.cast_delay.proofs.queue.Delay.forget.Goals as goal

pub invariant_of-self : goal.invariant_of-self
invariant_of-self c =
    let d = c.self.inside in
    rw (c.forget-settled.ensures.first, c.forget-settled.ensures.items)
    (record {
      settled = forget_settled d.gates d.rows d.offered c.args.key d.settled c.self.invariant.settled;
      looked = forget_looked d.gates d.rows d.offered c.args.key d.waits c.self.invariant.looked;
      lies = fewer_floor d.rows d.offered (λ o. not (key_eq o.key c.args.key)) d.floor c.self.invariant.lies;
    })
