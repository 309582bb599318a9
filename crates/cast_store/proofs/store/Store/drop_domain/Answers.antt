use Rattle.std.proofs.Common.{[]}
use Rattle.cast_store.proofs.Slots.{After, after_drop}
use Rattle.cast_store.proofs.store.Store.drop_domain.Goals as goal

-- all of it
after : (c : goal.After-drop_slots) →
    After c.args.domain [] 0 c.self.inside.rows.items c.drop_row.new.rows.items c.self.inside.slots c.drop_slots.new.slots
after c =
    let s = c.self.inside in
    after_drop s.rows.items c.drop_row.new.rows.items s.slots c.drop_slots.new.slots c.self.invariant c.args.domain c.drop_row.ensures
    c.drop_slots.ensures

pub invariant_of-self : goal.invariant_of-self
invariant_of-self c = (after c).sound

pub returns-clause-kept : goal.returns-clause-kept
returns-clause-kept c = (after c).kept

pub returns-clause-next : goal.returns-clause-next
returns-clause-next c = (after c).next

pub returns-clause-others : goal.returns-clause-others
returns-clause-others c e differ = rw (← c.self.view_is) ((after c).others e differ)
