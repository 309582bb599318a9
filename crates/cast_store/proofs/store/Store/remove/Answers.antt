use Rattle.std.proofs.Common.{◌∙◌}
use Rattle.slab.specs.Slab.{get as slot_at}
use Rattle.cast_store.specs.Store.{kept_in, next_in, but_under}
use Rattle.cast_store.specs.Lines.{shelves_by}
use Rattle.cast_store.proofs.Slots.{After, after_remove, nothing_removed, under_seen_in}
use Rattle.cast_store.proofs.store.Store.remove.Goals as goal

after : (c : goal.After-remove_in) →
    After c.args.domain (but_under c.args.key (kept_in (shelves_by (slot_at c.self.inside.slots) c.self.inside.rows.items) c.args.domain))
    (next_in (shelves_by (slot_at c.self.inside.slots) c.self.inside.rows.items) c.args.domain)
    c.self.inside.rows.items c.remove_in.new.rows.items c.self.inside.slots c.remove_in.new.slots
after c =
    let s = c.self.inside in
    after_remove s.rows.items c.remove_in.new.rows.items s.slots c.remove_in.new.slots c.self.invariant c.args.domain c.args.key
    c.remove_in.ensures.left c.remove_in.ensures.gone c.remove_in.ensures.none

pub invariant_of-self : goal.invariant_of-self
invariant_of-self c = (after c).sound

pub returns-clause-value : goal.returns-clause-value
returns-clause-value c =
    let s = c.self.inside in
    rw (← c.self.view_is)
    (c.remove_in.ensures.value ∙ under_seen_in (slot_at s.slots) s.rows.items c.self.invariant c.args.domain c.args.key)

pub returns-clause-kept : goal.returns-clause-kept
returns-clause-kept c = rw (← c.self.view_is) ((after c).kept)

pub returns-clause-next : goal.returns-clause-next
returns-clause-next c = rw (← c.self.view_is) ((after c).next)

pub returns-clause-none : goal.returns-clause-none
returns-clause-none c =
    let s = c.self.inside in
    rw (← c.self.view_is)
    (nothing_removed s.rows.items c.remove_in.new.rows.items s.slots c.remove_in.new.slots c.self.invariant c.args.domain c.args.key
    c.remove_in.result c.remove_in.ensures.value c.remove_in.ensures.gone c.remove_in.ensures.none)

pub returns-clause-others : goal.returns-clause-others
returns-clause-others c e differ = rw (← c.self.view_is) ((after c).others e differ)
