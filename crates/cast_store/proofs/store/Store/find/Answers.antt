use Rattle.std.proofs.Common.{List, None, ap, sym, ◌∙◌}
use Rattle.slab.specs.Slab.{get as slot_at}
use Rattle.cast_message.specs.declared.message.Received.{Received}
use Rattle.cast_store.specs.Ids.{message_of}
use Rattle.cast_store.specs.Lines.{message_in}
use Rattle.cast_store.proofs.Lines.{looked_up}
use Rattle.cast_store.proofs.Slots.{kept_seen_at, of_seen}
use Rattle.cast_store.proofs.store.Store.find.Goals as goal

pub returns-in-Some : goal.returns-in-Some
returns-in-Some c =
    let s = c.self.inside in
    let at = looked_up c.args.domain c.deref.ensures.value c.in-Some.ensures in
    rw (← c.self.view_is)
    (c.message_in.ensures
    ∙ ap (message_in (slot_at s.slots)) c.slot_of.ensures
    ∙ of_seen (slot_at s.slots) s.rows.items c.self.invariant c.args.domain c.in-Some.row.now at c.args.id)

pub returns-in-None : goal.returns-in-None
returns-in-None c =
    let s = c.self.inside in
    let absent = looked_up c.args.domain c.deref.ensures.value c.in-None.ensures in
    rw (← c.self.view_is)
    (sym (ap (λ (xs : List Received). message_of xs c.args.id) (kept_seen_at (slot_at s.slots) s.rows.items c.args.domain None absent)))
