use Rattle.std.proofs.Common.{◌≡◌, rules}
use Rattle.cast_delay.specs.Queue.{after_delivery}
use Rattle.cast_delay.specs.Settled.{despite_delivery}
use Rattle.cast_delay.proofs.Settled.{deliver_settled}
use Rattle.cast_delay.proofs.Passed.{deliver_looked, deliver_next}
use Rattle.cast_delay.proofs.queue.Delay.note_delivered.Goals as goal

-- what was settled before the delivery is, as far as it is settled despite it
pub settled_from-self-inside-requires : goal.settled_from-self-inside-requires
settled_from-self-inside-requires c =
    let rows : c.deliver_rows.new.rows ≡ after_delivery c.self.inside.offered c.args.process c.args.key c.self.inside.rows = search rules in
    let first : c.despite_delivery-settled.result
    ≡ despite_delivery c.self.inside.offered c.args.process c.args.key c.self.inside.rows c.self.inside.settled = search rules in
    rw (rows, first) (deliver_settled c.self.inside.gates c.self.inside.rows c.self.inside.offered c.args.process c.args.key
    c.self.inside.settled c.self.invariant.settled)

-- and what was looked at is known, or wakes
pub wake_next-requires-clause-some : goal.wake_next-requires-clause-some
wake_next-requires-clause-some c =
    let d = c.self.inside in
    let rows : c.deliver_rows.new.rows ≡ after_delivery d.offered c.args.process c.args.key d.rows = search rules in
    let waits : c.take-waits.result ≡ d.waits = c.take-waits.ensures.taken in
    rw (rows, waits) (deliver_next d.gates d.rows d.offered c.args.process c.args.key d.waits c.self.invariant.looked
    c.next_kept-next.result c.next_kept-next.ensures)

pub wake_next-requires-clause-none : goal.wake_next-requires-clause-none
wake_next-requires-clause-none c =
    let d = c.self.inside in
    let rows : c.deliver_rows.new.rows ≡ after_delivery d.offered c.args.process c.args.key d.rows = search rules in
    let waits : c.take-waits.result ≡ d.waits = c.take-waits.ensures.taken in
    rw (rows, waits) (deliver_looked d.gates d.rows d.offered c.args.process c.args.key d.waits c.self.invariant.looked)

pub invariant_of-self-2 : goal.invariant_of-self-2
invariant_of-self-2 c = record {
  settled = c.settled_from-self-inside.ensures;
  looked = c.wake_next.ensures;
  lies = c.deliver_rows.ensures.floor;
}
