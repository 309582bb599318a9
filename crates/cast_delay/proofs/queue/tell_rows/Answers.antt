use Rattle.std.proofs.Common.{◌≡◌, rules}
use Rattle.cast_ready.specs.Rows.{told_row}
use Rattle.cast_delay.specs.Queue.{change_row}
use Rattle.cast_delay.proofs.Floors.{kept_floor, told_under}
use Rattle.cast_delay.proofs.queue.tell_rows.Goals as goal

-- where the floor stays, the rows have passed what it counts
pub returns-clause-floor : goal.returns-clause-floor
returns-clause-floor c =
    let before = c.args.rows.now in
    let later = change_row c.args.process (told_row c.args.fact.now) before in
    let rows : c.tell.new.self ≡ later = search rules in
    rw rows
    (kept_floor c.stays_told-stays.result c.args.floor.now c.keep_if.new.self before later c.args.offered.now c.keep_if.ensures
    c.requires
    (λ stays. told_under c.args.floor.now.counts c.args.process c.args.fact.now before
    (rw (← c.as_slice.ensures) (c.stays_told-stays.ensures stays))))
