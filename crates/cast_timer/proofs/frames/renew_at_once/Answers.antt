use Rattle.std.proofs.Common.{ℕ, List, Some, ap, ◌∙◌}
use Rattle.std.proofs.lemmas.Map.Made.{lookup-map_values}
use Rattle.cast_timer.specs.declared.key.Moment.{Moment}
use Rattle.cast_timer.specs.declared.key.OwedKey.{OwedKey}
use Rattle.cast_timer.specs.Owed.{key_eq}
use Rattle.cast_timer.specs.Rows.{owed_in}
use Rattle.cast_timer.specs.Index.{due_of, renewed_due}
use Rattle.cast_timer.proofs.AllRenewed.{some_due}
use Rattle.cast_timer.proofs.Kept.{index_of, keeps_at_once}
use Rattle.cast_timer.proofs.Rows.{row_moved, shaped_moved, filled_moved, held_moved}
use Rattle.cast_timer.proofs.frames.renew_at_once.Goals as goal

pub drop_due-requires : goal.drop_due-requires
drop_due-requires c =
    let p : Moment = record { due = c.args.due; domain = c.args.domain } in
    let old = c.args.moments.now.entries in
    let new = c.insert.new.self.entries in
    let s = Some c.in_ok-keys.keys in
    shaped_moved p old new s (row_moved p s old new c.in_ok-insert.ensures.updates.0)
    c.insert.ensures.ordered c.in_ok-keys.ensures.rising c.requires.kept.shaped

pub returns-clause-ok : goal.returns-clause-ok
returns-clause-ok c q =
    let now = c.args.now in
    let due = c.args.due in
    ap (λ (es : List (OwedKey × ℕ)). due_of es q) c.renew_dues.ensures
    ∙ lookup-map_values (renewed_due now due) (key_eq q) c.args.dues.now.entries

pub returns-clause-kept : goal.returns-clause-kept
returns-clause-kept c =
    let now = c.args.now in
    let due = c.args.due in
    let d = c.args.domain in
    let p : Moment = record { due = due; domain = d } in
    let old = c.args.moments.now.entries in
    let new = c.insert.new.self.entries in
    let dues = c.args.dues.now.entries in
    let keys = c.in_ok-keys.keys in
    keeps_at_once d old new c.drop_due.new.moments.entries (due_of dues) (due_of c.renew_dues.new.dues.entries)
    keys.keys now due c.requires.later c.requires.kept c.drop_due.ensures.shaped
    (c.drop_due.ensures.filled (filled_moved p old new (Some keys) (row_moved p (Some keys) old new c.in_ok-insert.ensures.updates.0)
    (some_due now due (due_of dues) (owed_in old d) (index_of d old (due_of dues) c.requires.kept)
    keys.keys c.requires.some c.in_ok-keys.ensures.keys) c.requires.kept.filled))
    (held_moved p old new (Some keys) (row_moved p (Some keys) old new c.in_ok-insert.ensures.updates.0))
    c.drop_due.ensures.dropped
    (λ q. ap (λ (es : List (OwedKey × ℕ)). due_of es q) c.renew_dues.ensures ∙ lookup-map_values (renewed_due now due) (key_eq q) dues)
    c.in_ok-keys.ensures.keys
