use Rattle.std.proofs.Common.{sym, rules}
use Rattle.std.proofs.lemmas.List.Sorted.{answers_always}
use Rattle.cast_ready.specs.declared.row.Row.{Row}
use Rattle.cast_delay.proofs.Admitted.{search_found, search_absent}
use Rattle.cast_delay.proofs.rows.found_in.Goals as goal

-- the closure gives a row's process
pub returns-in-Ok : goal.returns-in-Ok
returns-in-Ok c =
    let by_process = c.in-Ok.ensures.position (λ (r : Row). r.process) (answers_always _ _ _ (λ f a r g called. search rules)) in
    let found =
    search_found c.args.process c.args.rows.now c.in-Ok.place c.index-rows-place.result c.requires c.in-Ok.ensures.bound by_process in
    search (rules, found)

pub returns-in-Err : goal.returns-in-Err
returns-in-Err c =
    let by_process = c.in-Err.ensures.position (λ (r : Row). r.process) (answers_always _ _ _ (λ f a r g called. search rules)) in
    sym (search_absent c.args.process c.args.rows.now c.in-Err.field-0 c.requires by_process)
