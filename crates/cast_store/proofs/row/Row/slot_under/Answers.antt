use Rattle.std.proofs.Common.{◌≡◌, Some, None, rules}
use Rattle.std.specs.Prelude.{◌==◌}
use Rattle.std.specs.List.{position}
use Rattle.cast_store.specs.declared.receipt.Receipt.{Receipt}
use Rattle.cast_store.proofs.Finds.{find_place, find_no_place}
use Rattle.cast_store.proofs.row.Row.slot_under.Goals as goal

pub returns-in_err-place : goal.returns-in_err-place
returns-in_err-place c =
    let none : position (λ (r : Receipt). r.number == c.args.key.0) c.self.inside.receipts.items ≡ None = search rules in
    let missing = find_no_place (λ r. r.number == c.args.key.0) c.self.inside.receipts.items none in
    search (rules, missing)

pub returns : goal.returns
returns c =
    let at : position (λ (r : Receipt). r.number == c.args.key.0) c.self.inside.receipts.items ≡ Some c.in_ok-place.place = search rules in
    let found = find_place (λ r. r.number == c.args.key.0) c.self.inside.receipts.items c.in_ok-place.place c.index.result.now at in
    search (rules, found)
