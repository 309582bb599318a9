use Rattle.std.proofs.Common.{◌≡◌, [], None, sym, ◌∙◌}
use Rattle.cast_outbox.specs.Outboxes.{outboxes_in}
use Rattle.cast_outbox.proofs.Entries.{set_same}
use Rattle.cast_outbox.proofs.Kept.{absent, after_remove, gone, gone_after}
use Rattle.cast_outbox.proofs.outboxes.Outboxes.close.Goals as goal

pub invariant_of-self : goal.invariant_of-self
invariant_of-self c =
    let s = c.self.inside in
    (after_remove s.names c.swap_remove.new.self s.slots c.drop_at.new.slots c.self.invariant c.args.domain c.args.serial c.in-Some.key
    (sym c.swap_remove.ensures.value ∙ c.in-Some.is) c.swap_remove.ensures.updates c.drop_at.ensures).sound

pub returns-in-Some-clause-own : goal.returns-in-Some-clause-own
returns-in-Some-clause-own c =
    let s = c.self.inside in
    rw (← c.self.view_is)
    ((after_remove s.names c.swap_remove.new.self s.slots c.drop_at.new.slots c.self.invariant c.args.domain c.args.serial c.in-Some.key
    (sym c.swap_remove.ensures.value ∙ c.in-Some.is) c.swap_remove.ensures.updates c.drop_at.ensures).own)

pub returns-in-Some-clause-others : goal.returns-in-Some-clause-others
returns-in-Some-clause-others c e differ =
    let s = c.self.inside in
    rw (← c.self.view_is)
    ((after_remove s.names c.swap_remove.new.self s.slots c.drop_at.new.slots c.self.invariant c.args.domain c.args.serial c.in-Some.key
    (sym c.swap_remove.ensures.value ∙ c.in-Some.is) c.swap_remove.ensures.updates c.drop_at.ensures).others e differ)

pub returns-in-Some-clause-gone : goal.returns-in-Some-clause-gone
returns-in-Some-clause-gone c =
    let s = c.self.inside in
    gone_after s.names c.swap_remove.new.self s.slots c.drop_at.new.slots c.self.invariant c.args.domain c.args.serial c.in-Some.key
    (sym c.swap_remove.ensures.value ∙ c.in-Some.is) c.swap_remove.ensures.updates c.drop_at.ensures

-- a serial with no outbox
pub returns-in_default-clause-own : goal.returns-in_default-clause-own
returns-in_default-clause-own c =
    let s = c.self.inside in
    let none : c.swap_remove.result ≡ None = cc in
    rw (← c.self.view_is)
    (set_same (outboxes_in s.slots.slots c.args.domain)
    c.args.serial [] (absent s.names s.slots c.self.invariant c.args.domain c.args.serial (sym c.swap_remove.ensures.value ∙ none)))

pub returns-in_default-clause-gone : goal.returns-in_default-clause-gone
returns-in_default-clause-gone c =
    let s = c.self.inside in
    let none : c.swap_remove.result ≡ None = cc in
    gone s.names s.slots c.self.invariant c.args.domain c.args.serial (sym c.swap_remove.ensures.value ∙ none)
