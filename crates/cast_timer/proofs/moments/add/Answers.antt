use Rattle.std.proofs.Common.{List, true, ap, sym, ◌∙◌}
use Rattle.std.specs.Prelude.{is_some}
use Rattle.std.specs.BTreeMap.{is_at}
use Rattle.std.specs.Map.{set_value}
use Rattle.std.proofs.lemmas.Map.Steps.{set_value_same}
use Rattle.cast_timer.specs.declared.key.OwedKey.{OwedKey}
use Rattle.cast_timer.specs.contracts.key.MomentOrd.TheImpl as moments
use Rattle.cast_timer.proofs.Rows.{changes_written, holds_with, on_err}
use Rattle.cast_timer.proofs.moments.add.Goals as goal

pub returns-in_err-insert-in-Some-clause-err : goal.returns-in_err-insert-in-Some-clause-err
returns-in_err-insert-in-Some-clause-err c =
    let w = c.insert.new.self in
    let old = c.args.moments.now.entries in
    let test = is_at (moments.cmp-value.it c.args.moment) in
    on_err c.from_residual.result
    ((c.get_mut.follows.holds w).0
    ∙ ap (λ (ks : List OwedKey). set_value test old (record { keys = ks })) c.in_err-insert-in-Some.ensures.err
    ∙ set_value_same test old c.in-Some.keys.now (sym c.in-Some.ensures.value))

pub returns-in_ok-insert-in-Some-clause-ok : goal.returns-in_ok-insert-in-Some-clause-ok
returns-in_ok-insert-in-Some-clause-ok c =
    let w = c.insert.new.self in
    let written = c.get_mut.follows.holds w in
    let at = sym c.in-Some.ensures.value in
    holds_with c.args.moment c.args.key c.args.moments.now.entries (c.get_mut.follows.lender w).entries
    (changes_written c.args.moment c.args.moments.now.entries (c.get_mut.follows.lender w).entries c.in-Some.keys.now w c.args.key true at
    (written.3 (ap is_some at)).0 written.4 c.insert.ensures.ordered c.in_ok-insert-in-Some.ensures.updates.0)
