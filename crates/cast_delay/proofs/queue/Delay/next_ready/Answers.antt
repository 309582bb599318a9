use Rattle.std.proofs.Common.{◌≡◌, Some, rules}
use Rattle.cast_delay.specs.Queue.{row_of, next_key}
use Rattle.cast_delay.specs.Waits.{looked_of}
use Rattle.cast_delay.proofs.Queues.{next_means}
use Rattle.cast_delay.proofs.Settled.{none_settled_next, next_row}
use Rattle.cast_delay.proofs.Only.{row_low}
use Rattle.cast_delay.proofs.queue.Delay.next_ready.Goals as goal

pub returns-in_err-row-clause-meaning : goal.returns-in_err-row-clause-meaning
returns-in_err-row-clause-meaning c = next_means c.args.turns.now c.args.self.now c.args.process c.from_residual.result (search rules)

-- none of the settled messages is ready, and what the floor has is low for the row
pub only_ready-requires-clause-none : goal.only_ready-requires-clause-none
only_ready-requires-clause-none c =
    let at : row_of c.self.inside.rows c.args.process ≡ Some c.in_ok-row.row.now = search rules in
    none_settled_next c.self.inside.gates c.self.inside.rows c.args.process c.in_ok-row.row.now at c.args.turns.now c.self.inside.offered
    c.self.inside.settled c.self.invariant.settled

pub only_ready-requires-clause-low : goal.only_ready-requires-clause-low
only_ready-requires-clause-low c =
    let at : row_of c.self.inside.rows c.args.process ≡ Some c.in_ok-row.row.now = search rules in
    row_low c.self.inside.rows c.self.inside.offered c.self.inside.floor c.self.invariant.lies c.args.process c.in_ok-row.row.now at

-- and what was looked at is known
pub next_looked-requires-clause-rising : goal.next_looked-requires-clause-rising
next_looked-requires-clause-rising c =
    let kept : looked_of c.self.inside.waits c.args.process ≡ Some c.in-Some.looked.now = search rules in
    (c.self.invariant.looked c.args.process c.in-Some.looked.now kept).rising

pub next_looked-requires-clause-none : goal.next_looked-requires-clause-none
next_looked-requires-clause-none c =
    let at : row_of c.self.inside.rows c.args.process ≡ Some c.in_ok-row.row.now = search rules in
    none_settled_next c.self.inside.gates c.self.inside.rows c.args.process c.in_ok-row.row.now at c.args.turns.now c.self.inside.offered
    c.self.inside.settled c.self.invariant.settled

pub next_looked-requires-clause-known : goal.next_looked-requires-clause-known
next_looked-requires-clause-known c =
    let at : row_of c.self.inside.rows c.args.process ≡ Some c.in_ok-row.row.now = search rules in
    let kept : looked_of c.self.inside.waits c.args.process ≡ Some c.in-Some.looked.now = search rules in
    (c.self.invariant.looked c.args.process c.in-Some.looked.now kept).known c.in_ok-row.row.now at

pub first_ready-requires-clause-none : goal.first_ready-requires-clause-none
first_ready-requires-clause-none c =
    let at : row_of c.self.inside.rows c.args.process ≡ Some c.in_ok-row.row.now = search rules in
    none_settled_next c.self.inside.gates c.self.inside.rows c.args.process c.in_ok-row.row.now at c.args.turns.now c.self.inside.offered
    c.self.inside.settled c.self.invariant.settled

-- the first message that is ready for the row is the one for the process
only_is : (c : goal.After-only_ready) → c.only_ready.result ≡ next_key c.args.turns.now c.args.self.now c.args.process
only_is c =
    let at : row_of c.self.inside.rows c.args.process ≡ Some c.in_ok-row.row.now = search rules in
    let same =
    next_row
    (record { gates = c.self.inside.gates; offered = c.self.inside.offered; rows = c.self.inside.rows; reached = c.self.inside.reached })
    c.args.process c.in_ok-row.row.now at c.args.turns.now in
    search (rules, same)

looked_is : (c : goal.After-next_looked) → c.next_looked.result ≡ next_key c.args.turns.now c.args.self.now c.args.process
looked_is c =
    let at : row_of c.self.inside.rows c.args.process ≡ Some c.in_ok-row.row.now = search rules in
    let same =
    next_row
    (record { gates = c.self.inside.gates; offered = c.self.inside.offered; rows = c.self.inside.rows; reached = c.self.inside.reached })
    c.args.process c.in_ok-row.row.now at c.args.turns.now in
    search (rules, same)

first_is : (c : goal.After-first_ready) → c.first_ready.result ≡ next_key c.args.turns.now c.args.self.now c.args.process
first_is c =
    let at : row_of c.self.inside.rows c.args.process ≡ Some c.in_ok-row.row.now = search rules in
    let same =
    next_row
    (record { gates = c.self.inside.gates; offered = c.self.inside.offered; rows = c.self.inside.rows; reached = c.self.inside.reached })
    c.args.process c.in_ok-row.row.now at c.args.turns.now in
    search (rules, same)

pub returns-then-len-self-eq1-clause-meaning : goal.returns-then-len-self-eq1-clause-meaning
returns-then-len-self-eq1-clause-meaning c = next_means c.args.turns.now c.args.self.now c.args.process c.only_ready.result (only_is c)

pub returns-in-Some-clause-meaning : goal.returns-in-Some-clause-meaning
returns-in-Some-clause-meaning c = next_means c.args.turns.now c.args.self.now c.args.process c.next_looked.result (looked_is c)

pub returns-in-None-clause-meaning : goal.returns-in-None-clause-meaning
returns-in-None-clause-meaning c = next_means c.args.turns.now c.args.self.now c.args.process c.first_ready.result (first_is c)
