use Rattle.std.proofs.Common.{List, Option, ℕ, sym, ap, ◌∙◌}
use Rattle.std.specs.Prelude.{is_some}
use Rattle.cast_timer.specs.declared.key.Owed.{Owed}
use Rattle.cast_timer.specs.Owed.{is_owed}
use Rattle.cast_timer.specs.Rows.{owed_in}
use Rattle.cast_timer.specs.Index.{due_of}
use Rattle.cast_timer.proofs.Index.{looked_up, owed_by}
use Rattle.cast_timer.proofs.Kept.{index_of}
use Rattle.cast_timer.proofs.Tables.{table_found, kept_of, owed_none}
use Rattle.cast_timer.proofs.timers.Timers.is_owed.Goals as goal

pub returns-in-Some : goal.returns-in-Some
returns-in-Some c =
    let s = c.self.inside in
    let d = c.args.domain in
    let key = c.args.key.now in
    let rows = s.moments.entries in
    let dues = c.in-Some.dues.now.entries in
    let kept =
    kept_of rows s.dues.entries d c.in-Some.dues.now c.self.invariant (sym (c.in-Some.ensures.value ∙ table_found d s.dues.entries)) in
    rw (← c.self.view_is)
    (c.contains_key.ensures
    ∙ ap (λ (m : Option ℕ). is_some m) (looked_up key dues)
    ∙ owed_by (due_of dues) (owed_in rows d) (index_of d rows (due_of dues) kept) key)

pub returns-in-None : goal.returns-in-None
returns-in-None c =
    let s = c.self.inside in
    rw (← c.self.view_is)
    (sym (ap (λ (os : List Owed). is_owed os c.args.key.now) (owed_none s.moments.entries s.dues.entries c.args.domain c.self.invariant
    (sym (c.in-None.ensures.value ∙ table_found c.args.domain s.dues.entries)))))
