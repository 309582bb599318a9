use Rattle.std.proofs.Common.{◌≡◌, ℕ, List, Some, cond, refl, sym, ap, ◌∙◌}
use Rattle.std.specs.Prelude.{◌==◌, is_some}
use Rattle.std.specs.BTreeMap.{is_at}
use Rattle.std.specs.Map.{set_value}
use Rattle.std.proofs.lemmas.Bool.{eqb-true, false_from_ne_true}
use Rattle.std.proofs.lemmas.Map.Steps.{set_value_same}
use Rattle.std.proofs.lemmas.Result.{on_ok_weaker}
use Rattle.cast_types.proofs.Results.{either_way}
use Rattle.cast_timer.specs.Owed.{key_eq}
use Rattle.cast_timer.specs.declared.key.OwedKey.{OwedKey}
use Rattle.cast_timer.specs.Index.{due_of}
use Rattle.cast_timer.specs.contracts.key.OwedKeyOrd.TheImpl as keys
use Rattle.cast_timer.proofs.Index.{looked_up, moved}
use Rattle.cast_timer.proofs.Kept.{keeps_moved, keeps_still, moved_one, moved_none, moved_unowed}
use Rattle.cast_timer.proofs.Rows.{on_ok_both, on_err_both}
use Rattle.cast_timer.proofs.frames.renew.Goals as goal

-- the moment that is read, written again
unwritten : (dues new : List (OwedKey × ℕ)) (key : OwedKey) (t : ℕ) → due_of dues key ≡ Some t →
    new ≡ set_value (is_at (keys.cmp-value.it key)) dues t → new ≡ dues
unwritten dues new key t some is = is ∙ set_value_same (is_at (keys.cmp-value.it key)) dues t (looked_up key dues ∙ some)

pub returns-then-due-frame-clause-kept : goal.returns-then-due-frame-clause-kept
returns-then-due-frame-clause-kept c =
    let key = c.args.frame.key in
    let dues = c.args.dues.now.entries in
    let t = c.in-Some.due.now in
    let new = (c.get_mut.follows.lender t).entries in
    let some = sym (looked_up key dues) ∙ sym c.in-Some.ensures.value in
    keeps_still c.args.domain c.args.moments.now.entries c.args.moments.now.entries (due_of dues) (due_of new) c.requires refl
    (λ q. ap (λ es. due_of es q) (unwritten dues new key t some (c.get_mut.follows.holds t).0))

pub returns-then-due-frame-clause-ok : goal.returns-then-due-frame-clause-ok
returns-then-due-frame-clause-ok c q =
    let key = c.args.frame.key in
    let dues = c.args.dues.now.entries in
    let t = c.in-Some.due.now in
    let some = sym (looked_up key dues) ∙ sym c.in-Some.ensures.value in
    ap (λ es. due_of es q) (unwritten dues (c.get_mut.follows.lender t).entries key t some (c.get_mut.follows.holds t).0)
    ∙ moved_none (due_of dues) key c.args.frame.due (some ∙ ap Some c.if-due-frame.true) q
    ∙ moved_one (due_of dues) key t c.args.frame.due some q

pub returns-else-due-frame-clause-kept : goal.returns-else-due-frame-clause-kept
returns-else-due-frame-clause-kept c =
    let key = c.args.frame.key in
    let dues = c.args.dues.now.entries in
    let t = c.in-Some.due.now in
    let after = c.args.frame.due in
    let w = c.move_to.new.due in
    let new = (c.get_mut.follows.lender w).entries in
    let written = c.get_mut.follows.holds w in
    let some = sym (looked_up key dues) ∙ sym c.in-Some.ensures.value in
    let is = moved key (Some w) dues new (written.3 (ap is_some (sym c.in-Some.ensures.value))).0 in
    let old_rows = c.args.moments.now.entries in
    let new_rows = c.move_to.new.moments.entries in
    either_way c.move_to.result
    (on_ok_both c.move_to.result
    (λ gone same. keeps_moved c.args.domain old_rows new_rows key t after gone (due_of dues) (due_of new)
    c.requires some (false_from_ne_true (t == after) (λ equal. absurd (c.if-due-frame.false (eqb-true t after equal))))
    (λ q. is q ∙ ap (λ n. cond (key_eq key q) (Some n) (due_of dues q)) same ∙ moved_one (due_of dues) key t after some q))
    c.move_to.ensures.moved c.move_to.ensures.ok)
    (on_err_both c.move_to.result
    (λ stays same. keeps_still c.args.domain old_rows new_rows (due_of dues) (due_of new) c.requires stays
    (λ q. is q ∙ ap (λ n. cond (key_eq key q) (Some n) (due_of dues q)) same ∙ sym (moved_none (due_of dues) key t some q)))
    c.move_to.ensures.err c.move_to.ensures.due_stays)

pub returns-else-due-frame-clause-ok : goal.returns-else-due-frame-clause-ok
returns-else-due-frame-clause-ok c =
    let key = c.args.frame.key in
    let dues = c.args.dues.now.entries in
    let w = c.move_to.new.due in
    let new = (c.get_mut.follows.lender w).entries in
    let some = sym (looked_up key dues) ∙ sym c.in-Some.ensures.value in
    let is = moved key (Some w) dues new ((c.get_mut.follows.holds w).3 (ap is_some (sym c.in-Some.ensures.value))).0 in
    on_ok_weaker c.move_to.result
    (λ (same : w ≡ c.args.frame.due) q. is q
    ∙ ap (λ n. cond (key_eq key q) (Some n) (due_of dues q)) same
    ∙ moved_one (due_of dues) key c.in-Some.due.now c.args.frame.due some q)
    c.move_to.ensures.ok

pub returns-in-None-clause-ok : goal.returns-in-None-clause-ok
returns-in-None-clause-ok c q =
    let key = c.args.frame.key in
    let dues = c.args.dues.now.entries in
    ap (λ m. due_of m.entries q) c.get_mut.follows.holds-at-none
    ∙ moved_unowed (due_of dues) key c.args.frame.due (sym (looked_up key dues) ∙ sym c.in-None.ensures.value) q
