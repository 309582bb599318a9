use Rattle.std.proofs.Common.{◌≡◌, Some, rules}
use Rattle.std.specs.Option.{option_copied}
use Rattle.cast_delay.specs.Queue.{row_of, candidate_in}
use Rattle.cast_delay.specs.Waits.{looked_of}
use Rattle.cast_delay.proofs.Queues.{candidate_means}
use Rattle.cast_delay.proofs.Settled.{none_settled_ready, candidate_row}
use Rattle.cast_delay.proofs.Only.{row_low}
use Rattle.cast_delay.proofs.queue.Delay.first_candidate.Goals as goal

pub returns-in_err-row-clause-meaning : goal.returns-in_err-row-clause-meaning
returns-in_err-row-clause-meaning c = candidate_means c.args.self.now c.args.process (option_copied c.from_residual.result) (search rules)

-- none of the settled messages is ready, and what the floor has is low for the row
pub only_candidate-requires-clause-none : goal.only_candidate-requires-clause-none
only_candidate-requires-clause-none c =
    let at : row_of c.self.inside.rows c.args.process ≡ Some c.in_ok-row.row.now = search rules in
    none_settled_ready c.self.inside.gates c.self.inside.rows c.args.process c.in_ok-row.row.now at c.self.inside.offered
    c.self.inside.settled c.self.invariant.settled

pub only_candidate-requires-clause-low : goal.only_candidate-requires-clause-low
only_candidate-requires-clause-low c =
    let at : row_of c.self.inside.rows c.args.process ≡ Some c.in_ok-row.row.now = search rules in
    row_low c.self.inside.rows c.self.inside.offered c.self.inside.floor c.self.invariant.lies c.args.process c.in_ok-row.row.now at

-- and what was looked at is known
pub candidate_looked-requires-clause-rising : goal.candidate_looked-requires-clause-rising
candidate_looked-requires-clause-rising c =
    let kept : looked_of c.self.inside.waits c.args.process ≡ Some c.in-Some.looked.now = search rules in
    (c.self.invariant.looked c.args.process c.in-Some.looked.now kept).rising

pub candidate_looked-requires-clause-none : goal.candidate_looked-requires-clause-none
candidate_looked-requires-clause-none c =
    let at : row_of c.self.inside.rows c.args.process ≡ Some c.in_ok-row.row.now = search rules in
    none_settled_ready c.self.inside.gates c.self.inside.rows c.args.process c.in_ok-row.row.now at c.self.inside.offered
    c.self.inside.settled c.self.invariant.settled

pub candidate_looked-requires-clause-known : goal.candidate_looked-requires-clause-known
candidate_looked-requires-clause-known c =
    let at : row_of c.self.inside.rows c.args.process ≡ Some c.in_ok-row.row.now = search rules in
    let kept : looked_of c.self.inside.waits c.args.process ≡ Some c.in-Some.looked.now = search rules in
    (c.self.invariant.looked c.args.process c.in-Some.looked.now kept).known c.in_ok-row.row.now at

pub first_candidate-requires-clause-none : goal.first_candidate-requires-clause-none
first_candidate-requires-clause-none c =
    let at : row_of c.self.inside.rows c.args.process ≡ Some c.in_ok-row.row.now = search rules in
    none_settled_ready c.self.inside.gates c.self.inside.rows c.args.process c.in_ok-row.row.now at c.self.inside.offered
    c.self.inside.settled c.self.invariant.settled

-- the first candidate of the row is the one of the process
only_is : (c : goal.After-only_candidate) → option_copied c.only_candidate.result ≡ candidate_in c.args.self.now c.args.process
only_is c =
    let at : row_of c.self.inside.rows c.args.process ≡ Some c.in_ok-row.row.now = search rules in
    let same =
    candidate_row
    (record { gates = c.self.inside.gates; offered = c.self.inside.offered; rows = c.self.inside.rows; reached = c.self.inside.reached })
    c.args.process c.in_ok-row.row.now at in
    search (rules, same)

looked_is : (c : goal.After-candidate_looked) → option_copied c.candidate_looked.result ≡ candidate_in c.args.self.now c.args.process
looked_is c =
    let at : row_of c.self.inside.rows c.args.process ≡ Some c.in_ok-row.row.now = search rules in
    let same =
    candidate_row
    (record { gates = c.self.inside.gates; offered = c.self.inside.offered; rows = c.self.inside.rows; reached = c.self.inside.reached })
    c.args.process c.in_ok-row.row.now at in
    search (rules, same)

first_is : (c : goal.After-first_candidate) → option_copied c.first_candidate.result ≡ candidate_in c.args.self.now c.args.process
first_is c =
    let at : row_of c.self.inside.rows c.args.process ≡ Some c.in_ok-row.row.now = search rules in
    let same =
    candidate_row
    (record { gates = c.self.inside.gates; offered = c.self.inside.offered; rows = c.self.inside.rows; reached = c.self.inside.reached })
    c.args.process c.in_ok-row.row.now at in
    search (rules, same)

pub returns-then-len-self-eq1-clause-meaning : goal.returns-then-len-self-eq1-clause-meaning
returns-then-len-self-eq1-clause-meaning c =
    candidate_means c.args.self.now c.args.process (option_copied c.only_candidate.result) (only_is c)

pub returns-in-Some-clause-meaning : goal.returns-in-Some-clause-meaning
returns-in-Some-clause-meaning c = candidate_means c.args.self.now c.args.process (option_copied c.candidate_looked.result) (looked_is c)

pub returns-in-None-clause-meaning : goal.returns-in-None-clause-meaning
returns-in-None-clause-meaning c = candidate_means c.args.self.now c.args.process (option_copied c.first_candidate.result) (first_is c)
