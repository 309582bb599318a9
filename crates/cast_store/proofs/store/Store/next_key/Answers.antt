use Rattle.std.proofs.Common.{ℕ, Some, None, ap, sym, ◌∙◌}
use Rattle.slab.specs.Slab.{get as slot_at}
use Rattle.cast_types.specs.declared.names.Key.{Key}
use Rattle.cast_store.proofs.Lines.{looked_up}
use Rattle.cast_store.proofs.Slots.{next_seen_at}
use Rattle.cast_store.proofs.store.Store.next_key.Goals as goal

pub returns-in-Some : goal.returns-in-Some
returns-in-Some c =
    let s = c.self.inside in
    let at = looked_up c.args.domain c.deref.ensures.value c.in-Some.ensures in
    let key : ℕ → Key = λ n. record { 0 = n } in
    rw (← c.self.view_is)
    (c.next_key.ensures ∙ ap key (sym (next_seen_at (slot_at s.slots) s.rows.items c.args.domain (Some c.in-Some.row.now) at)))

pub returns-in-None : goal.returns-in-None
returns-in-None c =
    let s = c.self.inside in
    let absent = looked_up c.args.domain c.deref.ensures.value c.in-None.ensures in
    let key : ℕ → Key = λ n. record { 0 = n } in
    rw (← c.self.view_is) (ap key (sym (next_seen_at (slot_at s.slots) s.rows.items c.args.domain None absent)))
