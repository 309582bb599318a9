use Rattle.cast_outbox.proofs.Kept.{still}
use Rattle.cast_outbox.proofs.outboxes.Outboxes.copy.Goals as goal

pub invariant_of-result : goal.invariant_of-result
invariant_of-result c =
    let s = c.self.inside in
    still s.names c.in_ok-copy_names.field-0 s.slots c.in_ok-copy_slots.field-0 c.self.invariant c.in_ok-copy_names.ensures
    c.in_ok-copy_slots.ensures
