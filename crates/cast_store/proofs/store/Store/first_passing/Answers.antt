use Rattle.std.proofs.Common.{◌≡◌, List, [], Some, None, true, false, sym, subst, arith}
use Rattle.std.specs.Option.{IfSome, IfNone}
use Rattle.slab.specs.Slab.{get as slot_at}
use Rattle.cast_message.specs.declared.message.Received.{Received}
use Rattle.cast_store.specs.Ids.{IsKeptOf, IsLedBy}
use Rattle.cast_store.specs.Lines.{line_of}
use Rattle.cast_store.proofs.Shows.{kept_of_some, led_by_none, led_by}
use Rattle.cast_store.proofs.Lines.{looked_up}
use Rattle.cast_store.proofs.Slots.{held_at, kept_seen_at}
use Rattle.cast_store.proofs.store.Store.first_passing.Goals as goal

pub returns-in-Some-clause-some : goal.returns-in-Some-clause-some
returns-in-Some-clause-some g c =
    let s = c.self.inside in
    let slots = slot_at s.slots in
    let l = c.in-Some.row.now in
    let at : line_of s.rows.items c.args.domain ≡ Some l = looked_up c.args.domain c.deref.ensures.value c.in-Some.ensures in
    rw (← c.self.view_is)
    (subst (λ (kept : List Received). IfSome c.first_passing.result (IsKeptOf (λ id. goal.F-post g c.args.passes id true) kept))
    (sym (kept_seen_at slots s.rows.items c.args.domain (Some l) at))
    (kept_of_some slots (λ id. goal.F-post g c.args.passes id true)
    l.receipts c.first_passing.result (held_at slots s.rows.items c.self.invariant c.args.domain l at) c.first_passing.ensures.some))

pub returns-in-Some-clause-none : goal.returns-in-Some-clause-none
returns-in-Some-clause-none g c =
    let s = c.self.inside in
    let slots = slot_at s.slots in
    let l = c.in-Some.row.now in
    let at : line_of s.rows.items c.args.domain ≡ Some l = looked_up c.args.domain c.deref.ensures.value c.in-Some.ensures in
    rw (← c.self.view_is)
    (subst (λ (kept : List Received). IfNone c.first_passing.result (IsLedBy (λ id. goal.F-post g c.args.passes id false) kept))
    (sym (kept_seen_at slots s.rows.items c.args.domain (Some l) at))
    (led_by_none slots (λ id. goal.F-post g c.args.passes id false)
    l.receipts c.first_passing.result (held_at slots s.rows.items c.self.invariant c.args.domain l at) c.first_passing.ensures.none))

pub returns-in-None-clause-none : goal.returns-in-None-clause-none
returns-in-None-clause-none g c =
    let s = c.self.inside in
    let absent : line_of s.rows.items c.args.domain ≡ None = looked_up c.args.domain c.deref.ensures.value c.in-None.ensures in
    rw (← c.self.view_is)
    (subst (IsLedBy (λ id. goal.F-post g c.args.passes id false))
    (sym (kept_seen_at (slot_at s.slots) s.rows.items c.args.domain None absent))
    (led_by (slot_at s.slots) (λ id. goal.F-post g c.args.passes id false) [] (λ r there. absurd (omega (arith, there.1)))
    (λ r there. absurd (omega (arith, there.1)))))
