use Rattle.std.proofs.Common.{List, ap, ◌∙◌}
use Rattle.std.proofs.lemmas.Result.{on_ok_weaker}
use Rattle.cast_timer.specs.declared.key.OwedKey.{OwedKey}
use Rattle.cast_timer.specs.Rows.{has_key, owed_in}
use Rattle.cast_timer.specs.Index.{due_of, moved_to}
use Rattle.cast_timer.proofs.AllRenewed.{moved_each}
use Rattle.cast_timer.proofs.Kept.{index_of}
use Rattle.cast_timer.proofs.frames.renew_due_in.Goals as goal

pub returns-in_ok-keys-clause-ok : goal.returns-in_ok-keys-clause-ok
returns-in_ok-keys-clause-ok c =
    let d = c.args.domain in
    let rows = c.args.moments.now.entries in
    let due = due_of c.args.dues.now.entries in
    on_ok_weaker c.renew_each.result
    (λ is q.
    is q
    ∙ ap (λ (ks : List OwedKey). moved_to c.args.due (has_key q ks) (due q)) (c.deref.ensures.value ∙ c.in_ok-keys.ensures)
    ∙ moved_each c.args.now c.args.due due (owed_in rows d) (index_of d rows due c.requires) q)
    c.renew_each.ensures.ok
