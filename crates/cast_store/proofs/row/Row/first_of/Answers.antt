use Rattle.cast_store.proofs.Ids.{first_of_received, none_of_received}
use Rattle.cast_store.proofs.row.Row.first_of.Goals as goal

pub returns-clause-some : goal.returns-clause-some
returns-clause-some c =
    let s = c.self.inside in
    rw (← c.self.view_is)
    (first_of_received s.ids.all s.receipts.items c.args.source c.first_of.result c.self.invariant.ids c.first_of.ensures.some)

pub returns-clause-none : goal.returns-clause-none
returns-clause-none c =
    let s = c.self.inside in
    rw (← c.self.view_is)
    (none_of_received s.ids.all s.receipts.items c.args.source c.first_of.result c.self.invariant.ids c.first_of.ensures.none)
