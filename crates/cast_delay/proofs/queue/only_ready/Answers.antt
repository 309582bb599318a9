use Rattle.std.proofs.Common.{Contains, sym, arith, rules}
use Rattle.cast_ready.specs.Rows.{is_ready_row}
use Rattle.cast_delay.proofs.Only.{last_found}
use Rattle.cast_delay.proofs.queue.only_ready.Goals as goal

-- the last message is one of those offered
pub is_ready-requires : goal.is_ready-requires
is_ready-requires c =
    let last = c.at-last.result.now in
    let there : Contains c.args.offered.now last = (c.args.settled, omega arith, sym c.at-last.ensures) in
    rw c.groups_of-low.ensures (c.requires.low last there)

pub returns : goal.returns
returns c =
    let found =
    last_found (is_ready_row c.args.turns.now c.args.gates.now c.args.row.now) c.args.offered.now c.args.settled c.at-last.result.now
    c.requires.one c.at-last.ensures c.requires.none in
    search (rules, found)
