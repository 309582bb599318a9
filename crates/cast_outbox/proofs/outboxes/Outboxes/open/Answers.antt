use Rattle.std.proofs.Common.{◌≡◌, List, [], Option, ap, sym, ◌∙◌}
use Rattle.std.proofs.lemmas.Result.{on_ok_weaker, on_err_weaker}
use Rattle.cast_types.proofs.Results.{either_way}
use Rattle.cast_outbox.specs.Pending.{Pending}
use Rattle.cast_outbox.specs.Outboxes.{outboxes_in}
use Rattle.cast_outbox.proofs.Kept.{still, on_err_both, after_set, after_add}
use Rattle.cast_outbox.proofs.outboxes.Outboxes.open.Goals as goal

pub invariant_of-self-in-None : goal.invariant_of-self-in-None
invariant_of-self-in-None c =
    let s = c.self.inside in
    let none = sym c.key_of.ensures ∙ c.in-None.is in
    either_way c.open_first.result
    (on_ok_weaker c.open_first.result (λ added. (after_add s.names c.open_first.new.names s.slots c.open_first.new.slots c.self.invariant
    c.args.domain c.args.serial (λ _. []) none added).sound) c.open_first.ensures.ok)
    (on_err_both c.open_first.result (still s.names c.open_first.new.names s.slots c.open_first.new.slots c.self.invariant)
    c.open_first.ensures.names_stay c.open_first.ensures.slots_stay)

pub returns-in-Some-clause-ok : goal.returns-in-Some-clause-ok
returns-in-Some-clause-ok c =
    let s = c.self.inside in
    rw (← c.self.view_is)
    ((after_set s.names s.slots c.clear_at.new.slots c.self.invariant c.args.domain c.args.serial (λ _. [])
    c.in-Some.key (sym c.key_of.ensures ∙ c.in-Some.is) c.clear_at.ensures).own)

pub returns-in-Some-clause-others : goal.returns-in-Some-clause-others
returns-in-Some-clause-others c e differ =
    let s = c.self.inside in
    rw (← c.self.view_is)
    ((after_set s.names s.slots c.clear_at.new.slots c.self.invariant c.args.domain c.args.serial (λ _. [])
    c.in-Some.key (sym c.key_of.ensures ∙ c.in-Some.is) c.clear_at.ensures).others e differ)

pub returns-in-None-clause-ok : goal.returns-in-None-clause-ok
returns-in-None-clause-ok c =
    let s = c.self.inside in
    let none = sym c.key_of.ensures ∙ c.in-None.is in
    rw (← c.self.view_is)
    (on_ok_weaker c.open_first.result (λ added. (after_add s.names c.open_first.new.names s.slots c.open_first.new.slots c.self.invariant
    c.args.domain c.args.serial (λ _. []) none added).own) c.open_first.ensures.ok)

pub returns-in-None-clause-others : goal.returns-in-None-clause-others
returns-in-None-clause-others c e differ =
    let s = c.self.inside in
    let none = sym c.key_of.ensures ∙ c.in-None.is in
    rw (← c.self.view_is)
    (either_way c.open_first.result
    (on_ok_weaker c.open_first.result (λ added. (after_add s.names c.open_first.new.names s.slots c.open_first.new.slots c.self.invariant
    c.args.domain c.args.serial (λ _. []) none added).others e differ) c.open_first.ensures.ok)
    (on_err_weaker c.open_first.result (λ (same : c.open_first.new.slots.slots ≡ s.slots.slots).
    ap (λ (xs : List (Option Pending)). outboxes_in xs e) same) c.open_first.ensures.slots_stay))
