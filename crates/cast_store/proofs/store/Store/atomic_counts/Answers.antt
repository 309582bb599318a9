use Rattle.std.proofs.Common.{List, None, Some, sym, subst, arith}
use Rattle.std.specs.Option.{IfNone, IfSome}
use Rattle.slab.specs.Slab.{get as slot_at}
use Rattle.cast_message.specs.declared.message.Received.{Received}
use Rattle.cast_store.specs.Ids.{KeepsAbcastRange, KeepsNoAbcast}
use Rattle.cast_store.proofs.Shows.{abcast_range_some, no_abcast_none}
use Rattle.cast_store.proofs.Lines.{looked_up}
use Rattle.cast_store.proofs.Slots.{held_at, kept_seen_at}
use Rattle.cast_store.proofs.store.Store.atomic_counts.Goals as goal

pub returns-in-Some-clause-some : goal.returns-in-Some-clause-some
returns-in-Some-clause-some c =
    let s = c.self.inside in
    let slots = slot_at s.slots in
    let l = c.in-Some.row.now in
    let at = looked_up c.args.domain c.deref.ensures.value c.in-Some.ensures in
    rw (← c.self.view_is)
    (subst (λ (kept : List Received). IfSome c.atomic_counts.result (KeepsAbcastRange kept c.args.source))
    (sym (kept_seen_at slots s.rows.items c.args.domain (Some l) at))
    (abcast_range_some slots l.receipts c.args.source c.atomic_counts.result
    (held_at slots s.rows.items c.self.invariant c.args.domain l at) c.atomic_counts.ensures.some))

pub returns-in-Some-clause-none : goal.returns-in-Some-clause-none
returns-in-Some-clause-none c =
    let s = c.self.inside in
    let slots = slot_at s.slots in
    let l = c.in-Some.row.now in
    let at = looked_up c.args.domain c.deref.ensures.value c.in-Some.ensures in
    rw (← c.self.view_is)
    (subst (λ (kept : List Received). IfNone c.atomic_counts.result (KeepsNoAbcast kept c.args.source))
    (sym (kept_seen_at slots s.rows.items c.args.domain (Some l) at))
    (no_abcast_none slots l.receipts c.args.source c.atomic_counts.result (held_at slots s.rows.items c.self.invariant c.args.domain l at)
    c.atomic_counts.ensures.none))

pub returns-in-None-clause-none : goal.returns-in-None-clause-none
returns-in-None-clause-none c =
    let s = c.self.inside in
    rw (← c.self.view_is)
    (subst (λ (kept : List Received). KeepsNoAbcast kept c.args.source)
    (sym (kept_seen_at (slot_at s.slots) s.rows.items c.args.domain None (looked_up c.args.domain c.deref.ensures.value c.in-None.ensures)))
    (λ r there. absurd (omega (arith, there.1))))
