use Rattle.cast_outbox.proofs.Kept.{dropped_gone, dropped_sound, dropped_own, dropped_others}
use Rattle.cast_outbox.proofs.outboxes.Outboxes.drop_domain.Goals as goal

pub invariant_of-self : goal.invariant_of-self
invariant_of-self c =
    let s = c.self.inside in
    dropped_sound s.names c.drop_names.new.names s.slots c.drop_slots.new.slots c.self.invariant c.args.domain c.drop_names.ensures
    c.drop_slots.ensures

pub returns-clause-own : goal.returns-clause-own
returns-clause-own c =
    let s = c.self.inside in
    dropped_own s.names c.drop_names.new.names s.slots c.drop_slots.new.slots c.self.invariant c.args.domain c.drop_names.ensures
    c.drop_slots.ensures

pub returns-clause-others : goal.returns-clause-others
returns-clause-others c e differ =
    let s = c.self.inside in
    rw (← c.self.view_is)
    (dropped_others s.names c.drop_names.new.names s.slots c.drop_slots.new.slots c.self.invariant c.args.domain c.drop_names.ensures
    c.drop_slots.ensures e differ)

pub returns-clause-gone : goal.returns-clause-gone
returns-clause-gone c =
    let s = c.self.inside in
    dropped_gone s.names c.drop_names.new.names s.slots c.drop_slots.new.slots c.self.invariant c.args.domain c.drop_names.ensures
    c.drop_slots.ensures
