use Rattle.std.proofs.Common.{◌≡◌, ◌∙◌, Some, None, rules}
use Rattle.std.specs.List.{find}
use Rattle.cast_ready.specs.Rows.{is_causally_ready_row}
use Rattle.cast_delay.specs.Offers.{is_candidate_under}
use Rattle.cast_delay.proofs.Looks.{awake_under, unseen_found}
use Rattle.cast_delay.proofs.queue.candidate_looked.Goals as goal

-- none that is awake is a candidate
pub first_candidate-requires-in-None-clause-none : goal.first_candidate-requires-in-None-clause-none
first_candidate-requires-in-None-clause-none c =
    let none : find (is_candidate_under c.args.gates.now c.args.row.now c.args.offered.now) c.args.looked.now.awake.keys ≡ None =
    search rules in
    unseen_found c.args.gates.now c.args.row.now c.args.offered.now c.args.looked.now c.requires.rising c.requires.known
    (λ o. is_causally_ready_row c.args.gates.now c.args.row.now o.id o.times) (λ o is. is)
    c.first_unseen-first.result c.args.settled c.first_unseen-first.ensures c.requires.none none

pub returns-in-Some : goal.returns-in-Some
returns-in-Some c =
    let at : find (is_candidate_under c.args.gates.now c.args.row.now c.args.offered.now) c.args.looked.now.awake.keys
    ≡ Some c.in-Some.key.0 = search rules in
    c.under.ensures
    ∙ awake_under c.args.gates.now c.args.row.now c.args.offered.now c.args.looked.now c.requires.rising c.requires.known
    (λ o. is_causally_ready_row c.args.gates.now c.args.row.now o.id o.times) (λ o is. is)
    c.in-Some.key.0 c.first_candidate.ensures.rising at
