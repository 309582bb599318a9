use Rattle.std.proofs.Common.{length, arith, rules}
use Rattle.std.proofs.lemmas.Slice.{between_to_end}
use Rattle.cast_ready.specs.Rows.{is_ready_row}
use Rattle.cast_delay.proofs.Behind.{first_behind}
use Rattle.cast_delay.proofs.offers.Offers.first_ready.Goals as goal

-- those behind the first ones tell as much as all
pub returns-in_err-offered : goal.returns-in_err-offered
returns-in_err-offered c =
    let rest = between_to_end c.self.inside.messages.items c.args.first (length c.self.inside.messages.items) (omega arith) in
    let behind =
    first_behind (is_ready_row c.args.turns.now c.args.gates.now c.args.row.now) c.self.inside.messages.items c.args.first (search rules) in
    search (rules, rest, behind)

pub returns : goal.returns
returns c =
    let rest = between_to_end c.self.inside.messages.items c.args.first (length c.self.inside.messages.items) (omega arith) in
    let behind =
    first_behind (is_ready_row c.args.turns.now c.args.gates.now c.args.row.now) c.self.inside.messages.items c.args.first (search rules) in
    search (rules, rest, behind)
