use Rattle.std.proofs.Common.{List, None, Some, sym, subst, arith}
use Rattle.std.specs.Option.{IfNone, IfSome}
use Rattle.slab.specs.Slab.{get as slot_at}
use Rattle.cast_message.specs.declared.message.Received.{Received}
use Rattle.cast_store.specs.Ids.{KeepsFirst, KeepsNoneOf}
use Rattle.cast_store.proofs.Shows.{first_kept_some, none_kept_none}
use Rattle.cast_store.proofs.Lines.{looked_up}
use Rattle.cast_store.proofs.Slots.{held_at, kept_seen_at}
use Rattle.cast_store.proofs.store.Store.first_of.Goals as goal

pub returns-in-Some-clause-some : goal.returns-in-Some-clause-some
returns-in-Some-clause-some c =
    let s = c.self.inside in
    let slots = slot_at s.slots in
    let l = c.in-Some.row.now in
    let at = looked_up c.args.domain c.deref.ensures.value c.in-Some.ensures in
    rw (← c.self.view_is)
    (subst (λ (kept : List Received). IfSome c.first_of.result (KeepsFirst kept c.args.source))
    (sym (kept_seen_at slots s.rows.items c.args.domain (Some l) at))
    (first_kept_some slots l.receipts c.args.source c.first_of.result (held_at slots s.rows.items c.self.invariant c.args.domain l at)
    c.first_of.ensures.some))

pub returns-in-Some-clause-none : goal.returns-in-Some-clause-none
returns-in-Some-clause-none c =
    let s = c.self.inside in
    let slots = slot_at s.slots in
    let l = c.in-Some.row.now in
    let at = looked_up c.args.domain c.deref.ensures.value c.in-Some.ensures in
    rw (← c.self.view_is)
    (subst (λ (kept : List Received). IfNone c.first_of.result (KeepsNoneOf kept c.args.source))
    (sym (kept_seen_at slots s.rows.items c.args.domain (Some l) at))
    (none_kept_none slots l.receipts c.args.source c.first_of.result (held_at slots s.rows.items c.self.invariant c.args.domain l at)
    c.first_of.ensures.none))

pub returns-in-None-clause-none : goal.returns-in-None-clause-none
returns-in-None-clause-none c =
    let s = c.self.inside in
    rw (← c.self.view_is)
    (subst (λ (kept : List Received). KeepsNoneOf kept c.args.source)
    (sym (kept_seen_at (slot_at s.slots) s.rows.items c.args.domain None (looked_up c.args.domain c.deref.ensures.value c.in-None.ensures)))
    (λ r there. absurd (omega (arith, there.1))))
