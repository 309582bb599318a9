use Rattle.std.proofs.Common.{false, cond, sym, ◌∙◌}
use Rattle.cast_index.specs.declared.entry.Entry.{Entry}
use Rattle.cast_index.proofs.Orders.{contained, entry_tests}
use Rattle.cast_index.proofs.index.Index.remove.Goals as goal

pub returns : goal.returns
returns c u k =
    let x : Entry = record { id = c.args.id; number = c.args.key.0 } in
    let y : Entry = record { id = u; number = k.0 } in
    rw (← c.self.view_is)
    (sym (contained c.remove.new.self.keys u k)
    ∙ c.remove.ensures.updates.0 y
    ∙ (λ i. cond (entry_tests x y i) false (contained c.self.inside.entries.keys u k i)))
