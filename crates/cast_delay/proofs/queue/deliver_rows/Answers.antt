use Rattle.std.proofs.Common.{◌≡◌, rules}
use Rattle.cast_delay.specs.Queue.{after_delivery}
use Rattle.cast_delay.proofs.Floors.{kept_floor, delivery_under, under_low}
use Rattle.cast_delay.proofs.queue.deliver_rows.Goals as goal

-- the groups of the message that are within the floor are low for each row
pub deliver-requires : goal.deliver-requires
deliver-requires c = λ row there o at.
    rw c.groups_of.ensures (under_low c.args.rows.now c.args.offered.now c.args.floor.now c.requires c.args.key row there o at)

-- where the floor stays, the rows have passed what it counts
pub returns-clause-floor : goal.returns-clause-floor
returns-clause-floor c =
    let before = c.args.rows.now in
    let rows : c.deliver.new.self ≡ after_delivery c.args.offered.now c.args.process c.args.key before = search rules in
    rw rows
    (kept_floor c.stays_under-stays.result c.args.floor.now c.keep_if.new.self before
    (after_delivery c.args.offered.now c.args.process c.args.key before) c.args.offered.now c.keep_if.ensures c.requires
    (λ stays. delivery_under c.args.floor.now.counts c.args.offered.now c.args.process c.args.key before
    (rw (← c.as_slice.ensures) (c.stays_under-stays.ensures stays))))
