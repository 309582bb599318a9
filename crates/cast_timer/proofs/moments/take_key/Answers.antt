use Rattle.std.proofs.Common.{false, ap, sym, ◌∙◌}
use Rattle.std.proofs.lemmas.Bool.{false≢true}
use Rattle.std.specs.Prelude.{is_some}
use Rattle.cast_timer.proofs.Rows.{changes_written, none_left, some_left}
use Rattle.cast_timer.proofs.moments.take_key.Goals as goal

pub returns-in-Some-clause-taken : goal.returns-in-Some-clause-taken
returns-in-Some-clause-taken c =
    let w = c.remove.new.self in
    let written = c.get_mut.follows.holds w in
    let at = sym c.in-Some.ensures.value in
    changes_written c.args.moment.now c.args.moments.now.entries (c.get_mut.follows.lender w).entries c.in-Some.keys.now w c.args.key.now
    false at (written.3 (ap is_some at)).0 written.4 c.remove.ensures.ordered c.remove.ensures.updates.0

pub returns-in-Some-clause-empty : goal.returns-in-Some-clause-empty
returns-in-Some-clause-empty c empty k =
    let w = c.remove.new.self in
    let written = c.get_mut.follows.holds w in
    none_left c.args.moment.now c.args.moments.now.entries (c.get_mut.follows.lender w).entries w
    (written.3 (ap is_some (sym c.in-Some.ensures.value))).0 (c.is_empty.ensures.0 empty) k

pub returns-in-Some-clause-left : goal.returns-in-Some-clause-left
returns-in-Some-clause-left c left =
    let w = c.remove.new.self in
    let written = c.get_mut.follows.holds w in
    some_left c.args.moment.now c.args.moments.now.entries (c.get_mut.follows.lender w).entries w
    (written.3 (ap is_some (sym c.in-Some.ensures.value))).0
    (λ none. false≢true (sym left ∙ c.is_empty.ensures.1 none))
