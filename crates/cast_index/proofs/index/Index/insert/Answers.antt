use Rattle.std.proofs.Common.{true, cond, sym, ◌∙◌}
use Rattle.cast_index.specs.declared.entry.Entry.{Entry}
use Rattle.cast_index.proofs.Orders.{contained, entry_tests}
use Rattle.cast_index.proofs.index.Index.insert.Goals as goal

pub returns-clause-ok : goal.returns-clause-ok
returns-clause-ok c u k =
    let x : Entry = record { id = c.args.id; number = c.args.key.0 } in
    let y : Entry = record { id = u; number = k.0 } in
    rw (← c.self.view_is)
    (sym (contained c.insert.new.self.keys u k)
    ∙ c.in_ok-insert.ensures.updates.0 y
    ∙ (λ i. cond (entry_tests x y i) true (contained c.self.inside.entries.keys u k i)))
