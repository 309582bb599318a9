use Rattle.std.proofs.Common.{◌≡◌, Some, None, ap, sym, subst, ◌∙◌}
use Rattle.slab.specs.Slab.{get as slot_at}
use Rattle.cast_store.specs.Lines.{line_of, kept_by, IsHeld}
use Rattle.cast_store.specs.Store.{is_rising}
use Rattle.cast_store.proofs.Shows.{rising_kept}
use Rattle.cast_store.proofs.Lines.{looked_up}
use Rattle.cast_store.proofs.Slots.{held_at, kept_seen_at, next_seen_at}
use Rattle.cast_store.proofs.store.Store.messages.Goals as goal

-- the domain's line
at : (c : goal.After-receipts) → line_of c.self.inside.rows.items c.args.domain ≡ Some c.in-Some.row.now
at c = looked_up c.args.domain c.deref.ensures.value c.in-Some.ensures

pub new-requires : goal.new-requires
new-requires c =
    let s = c.self.inside in
    subst (IsHeld (slot_at s.slots)) (sym c.receipts.ensures.value)
    (held_at (slot_at s.slots) s.rows.items c.self.invariant c.args.domain c.in-Some.row.now (at c))

pub returns-in-Some-clause-value : goal.returns-in-Some-clause-value
returns-in-Some-clause-value c =
    let s = c.self.inside in
    rw (← c.self.view_is)
    (c.new.ensures
    ∙ ap (kept_by (slot_at s.slots)) c.receipts.ensures.value
    ∙ sym (kept_seen_at (slot_at s.slots) s.rows.items c.args.domain (Some c.in-Some.row.now) (at c.before)))

pub returns-in-Some-clause-rising : goal.returns-in-Some-clause-rising
returns-in-Some-clause-rising c =
    let s = c.self.inside in
    let l = c.in-Some.row.now in
    let slots = slot_at s.slots in
    let held = held_at slots s.rows.items c.self.invariant c.args.domain l (at c.before) in
    rw (← c.self.view_is)
    ((λ i. is_rising (next_seen_at slots s.rows.items c.args.domain (Some l) (at c.before) i)
    (kept_seen_at slots s.rows.items c.args.domain (Some l) (at c.before) i))
    ∙ rising_kept slots l.next l.receipts held
    ∙ c.receipts.ensures.numbered)

-- and where it has none
absent : (c : goal.After-empty) → line_of c.self.inside.rows.items c.args.domain ≡ None
absent c = looked_up c.args.domain c.deref.ensures.value c.in-None.ensures

pub returns-in-None-clause-value : goal.returns-in-None-clause-value
returns-in-None-clause-value c =
    let s = c.self.inside in
    rw (← c.self.view_is)
    (c.empty.ensures ∙ sym (kept_seen_at (slot_at s.slots) s.rows.items c.args.domain None (absent c)))

pub returns-in-None-clause-rising : goal.returns-in-None-clause-rising
returns-in-None-clause-rising c =
    let s = c.self.inside in
    let slots = slot_at s.slots in
    rw (← c.self.view_is)
    (λ i. is_rising (next_seen_at slots s.rows.items c.args.domain None (absent c) i)
    (kept_seen_at slots s.rows.items c.args.domain None (absent c) i))
