use Rattle.std.proofs.Common.{Contains, sym, arith, rules}
use Rattle.cast_ready.specs.declared.offered.Offered.{Offered}
use Rattle.cast_ready.specs.Rows.{is_causally_ready_row}
use Rattle.cast_delay.proofs.Only.{last_found}
use Rattle.cast_delay.proofs.queue.only_candidate.Goals as goal

-- the last message is one of those offered
pub is_causally_ready-requires : goal.is_causally_ready-requires
is_causally_ready-requires c =
    let last = c.at-last.result.now in
    let there : Contains c.args.offered.now last = (c.args.settled, omega arith, sym c.at-last.ensures) in
    rw c.groups_of-low.ensures (c.requires.low last there)

pub returns : goal.returns
returns c =
    let found =
    last_found (λ (o : Offered). is_causally_ready_row c.args.gates.now c.args.row.now o.id o.times) c.args.offered.now c.args.settled
    c.at-last.result.now c.requires.one c.at-last.ensures c.requires.none in
    search (rules, found)
