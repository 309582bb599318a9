use Rattle.std.proofs.Common.{sym, rules, length, ◌<◌, arith}
use Rattle.std.proofs.lemmas.List.Sorted.{answers_always}
use Rattle.cast_index.proofs.Rises.{searched_ok, searched_err}
use Rattle.cast_store.specs.Lines.{number_of}
use Rattle.cast_store.proofs.row.place_under.Goals as goal

-- the closure gives a message's key
pub returns-in-Ok-clause-place : goal.returns-in-Ok-clause-place
returns-in-Ok-clause-place c =
    let by_key = c.in-Ok.ensures.position number_of (answers_always _ _ _ (λ f a r g called. search rules)) in
    let count = c.args.receipts.now.ok in
    let within : c.in-Ok.place < length c.args.receipts.now.items = omega (arith, c.in-Ok.ensures.bound) in
    sym (searched_ok number_of c.args.key.0 c.args.receipts.now.items c.in-Ok.place c.requires within by_key)

pub returns-in-Err-clause-place : goal.returns-in-Err-clause-place
returns-in-Err-clause-place c =
    let by_key = c.in-Err.ensures.position number_of (answers_always _ _ _ (λ f a r g called. search rules)) in
    sym (searched_err number_of c.args.key.0 c.args.receipts.now.items c.in-Err.field-0 c.requires by_key)
