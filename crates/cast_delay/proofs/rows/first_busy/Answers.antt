use Rattle.std.proofs.Common.{arith}
use Rattle.cast_delay.proofs.Busy.{are_rising, idle_at, not_among, of_site}
use Rattle.cast_delay.proofs.rows.first_busy.Goals as goal

pub count_below-below-requires : goal.count_below-below-requires
count_below-below-requires c = are_rising c.args.rows.now c.args.busy.now c.requires.busy

-- no row from the place on is busy in front of the first one that stands in the list
pub returns-then-below-busy-clause-idle : goal.returns-then-below-busy-clause-idle
returns-then-below-busy-clause-idle c = λ i row from before at.
    let rows = c.args.rows.now in
    let busy = c.args.busy.now in
    let below = c.count_below-below.result in
    let rising = are_rising rows busy c.requires.busy in
    let none =
    not_among rows busy c.requires.busy below i row
    (λ j lt within. omega (arith, c.count_below-below.ensures.below j lt within, from))
    (λ j le within. omega (arith, before, rising below j 0 le within))
    at in
    (of_site c.args.site rows i row c.requires.site at, idle_at rows i row c.requires.rise none at)

-- none is where all in the list are below it
pub returns-else-below-busy-clause-idle : goal.returns-else-below-busy-clause-idle
returns-else-below-busy-clause-idle c = λ i row from before at.
    let rows = c.args.rows.now in
    let busy = c.args.busy.now in
    let none =
    not_among rows busy c.requires.busy c.count_below-below.result i row
    (λ j lt within. omega (arith, c.count_below-below.ensures.below j lt within, from))
    (λ j le within. absurd (omega (arith, le, within, c.if-below-busy.false)))
    at in
    (of_site c.args.site rows i row c.requires.site at, idle_at rows i row c.requires.rise none at)
