use Rattle.std.proofs.Common.{◌≡◌, ◌∙◌, sym, None, rules}
use Rattle.cast_store.specs.Lines.{slot_under, slot_of}
use Rattle.cast_store.proofs.Ids.{none_of, first_of}
use Rattle.cast_store.proofs.row.Row.slot_of.Goals as goal

pub returns-in_err-key : goal.returns-in_err-key
returns-in_err-key c =
    let receipts = c.self.inside.receipts.items in
    let none : slot_of receipts c.args.id ≡ None =
    none_of receipts c.args.id (λ k. sym (c.self.invariant.ids c.args.id k) ∙ c.in_err-key.ensures.none k) in
    search (rules, none)

pub returns : goal.returns
returns c =
    let receipts = c.self.inside.receipts.items in
    let key = c.in_ok-key.key in
    let ids = c.self.invariant.ids in
    let found : slot_under receipts key.0 ≡ slot_of receipts c.args.id =
    first_of c.self.inside.next receipts c.args.id key c.self.invariant.numbered (sym (ids c.args.id key) ∙ c.in_ok-key.ensures.some.0)
    (λ j named. c.in_ok-key.ensures.some.1 j (ids c.args.id j ∙ named)) in
    c.slot_under.ensures ∙ rw (← c.self.view_is) found
