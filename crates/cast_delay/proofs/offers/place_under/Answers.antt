use Rattle.std.proofs.Common.{◌<◌, length, sym, rules}
use Rattle.std.proofs.lemmas.List.Sorted.{answers_always}
use Rattle.cast_index.proofs.Rises.{searched_ok, searched_err}
use Rattle.cast_delay.specs.Offers.{key_of}
use Rattle.cast_delay.proofs.offers.place_under.Goals as goal

-- the closure gives a message's key
pub returns-in-Ok : goal.returns-in-Ok
returns-in-Ok c =
    let by_key = c.in-Ok.ensures.position key_of (answers_always _ _ _ (λ f a r g called. search rules)) in
    let within : c.in-Ok.place < length c.args.messages.now.items = search rules in
    sym (searched_ok key_of c.args.key.0 c.args.messages.now.items c.in-Ok.place c.requires within by_key)

pub returns-in-Err : goal.returns-in-Err
returns-in-Err c =
    let by_key = c.in-Err.ensures.position key_of (answers_always _ _ _ (λ f a r g called. search rules)) in
    sym (searched_err key_of c.args.key.0 c.args.messages.now.items c.in-Err.field-0 c.requires by_key)
