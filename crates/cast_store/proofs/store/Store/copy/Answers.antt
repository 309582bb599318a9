use Rattle.cast_store.proofs.Slots.{still}
use Rattle.cast_store.proofs.store.Store.copy.Goals as goal

pub invariant_of-result : goal.invariant_of-result
invariant_of-result c =
    let s = c.self.inside in
    still s.rows.items c.in_ok-copy_rows.field-0.items s.slots c.in_ok-copy_slots.field-0 c.self.invariant c.in_ok-copy_rows.ensures
    c.in_ok-copy_slots.ensures
