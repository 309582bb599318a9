use Rattle.std.proofs.Common.{◌≡◌, Some, None, rules}
use Rattle.std.specs.List.{position}
use Rattle.cast_message.specs.Receipts.{key_eq}
use Rattle.cast_index.proofs.Rises.{found_at, not_found}
use Rattle.cast_ready.specs.declared.offered.Offered.{Offered}
use Rattle.cast_delay.specs.Offers.{key_of}
use Rattle.cast_delay.proofs.offers.found_under.Goals as goal

pub returns-in_err-place : goal.returns-in_err-place
returns-in_err-place c =
    let none : position (λ (o : Offered). key_eq o.key c.args.key) c.args.messages.now.items ≡ None = search rules in
    let found = not_found key_of c.args.key.0 c.args.messages.now.items none in
    search (rules, found)

pub returns : goal.returns
returns c =
    let at : position (λ (o : Offered). key_eq o.key c.args.key) c.args.messages.now.items ≡ Some c.in_ok-place.place = search rules in
    let found = found_at key_of c.args.key.0 c.args.messages.now.items c.in_ok-place.place at in
    search (rules, found)
