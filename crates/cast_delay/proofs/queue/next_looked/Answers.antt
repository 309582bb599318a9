use Rattle.std.proofs.Common.{◌≡◌, Some, None, sym, rules}
use Rattle.std.specs.List.{find}
use Rattle.cast_ready.specs.Rows.{is_ready_row}
use Rattle.cast_delay.specs.Offers.{is_ready_under}
use Rattle.cast_delay.proofs.Behind.{only_causally}
use Rattle.cast_delay.proofs.Looks.{awake_first, unseen_found}
use Rattle.cast_delay.proofs.queue.next_looked.Goals as goal

-- none that is awake is ready
pub first_ready-requires-in-None-clause-none : goal.first_ready-requires-in-None-clause-none
first_ready-requires-in-None-clause-none c =
    let none : find (is_ready_under c.args.turns.now c.args.gates.now c.args.row.now c.args.offered.now) c.args.looked.now.awake.keys
    ≡ None = search rules in
    unseen_found c.args.gates.now c.args.row.now c.args.offered.now c.args.looked.now c.requires.rising c.requires.known
    (is_ready_row c.args.turns.now c.args.gates.now c.args.row.now) (only_causally c.args.turns.now c.args.gates.now c.args.row.now)
    c.first_unseen-first.result c.args.settled c.first_unseen-first.ensures c.requires.none none

pub returns-in-Some : goal.returns-in-Some
returns-in-Some c =
    let at : find (is_ready_under c.args.turns.now c.args.gates.now c.args.row.now c.args.offered.now) c.args.looked.now.awake.keys
    ≡ Some c.in-Some.key.0 = search rules in
    sym (awake_first c.args.gates.now c.args.row.now c.args.offered.now c.args.looked.now c.requires.rising c.requires.known
    (is_ready_row c.args.turns.now c.args.gates.now c.args.row.now) (only_causally c.args.turns.now c.args.gates.now c.args.row.now)
    c.in-Some.key.0 c.first_ready.ensures.rising at)
