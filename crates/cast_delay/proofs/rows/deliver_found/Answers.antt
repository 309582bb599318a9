use Rattle.std.proofs.Common.{◌≡◌, List, true, subst, sym, rules}
use Rattle.std.proofs.lemmas.List.Sorted.{answers_always}
use Rattle.cast_ready.specs.declared.row.Row.{Row}
use Rattle.cast_ready.specs.Rows.{delivered_row}
use Rattle.cast_delay.specs.Admitted.{rise}
use Rattle.cast_delay.proofs.Admitted.{none_changed, search_absent, search_changed}
use Rattle.cast_delay.proofs.rows.deliver_found.Goals as goal

-- the closure gives a row's process
pub returns-in-Ok : goal.returns-in-Ok
returns-in-Ok c =
    let rows = c.deref.result.now in
    let up : rise rows ≡ true = subst (λ (rs : List Row). rise rs ≡ true) (sym c.deref.ensures.value) c.requires.rise in
    let by_process = c.in-Ok.ensures.position (λ (r : Row). r.process) (answers_always _ _ _ (λ f a r g called. search rules)) in
    let at =
    search_changed c.args.process (delivered_row c.args.message.now.id c.args.message.now.times)
    rows c.in-Ok.place c.index_mut.result.now up c.in-Ok.ensures.bound by_process in
    search (rules, at, c.deref.ensures.value)

pub returns-in-Err : goal.returns-in-Err
returns-in-Err c =
    let rows = c.deref.result.now in
    let up : rise rows ≡ true = subst (λ (rs : List Row). rise rs ≡ true) (sym c.deref.ensures.value) c.requires.rise in
    let by_process = c.in-Err.ensures.position (λ (r : Row). r.process) (answers_always _ _ _ (λ f a r g called. search rules)) in
    let none =
    none_changed c.args.process (delivered_row c.args.message.now.id c.args.message.now.times)
    rows (search_absent c.args.process rows c.in-Err.field-0 up by_process) in
    search (rules, none, c.deref.ensures.value)
