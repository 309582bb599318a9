use Rattle.std.proofs.Common.{◌≡◌, List, Option, take, drop, refl, ap, sym, ◌∙◌}
use Rattle.std.proofs.lemmas.Result.{IfOk-weaker, on_ok_weaker, on_err_weaker}
use Rattle.cast_types.proofs.Results.{either_way}
use Rattle.cast_message.specs.declared.client.Push.{Push}
use Rattle.cast_outbox.specs.Pending.{Pending}
use Rattle.cast_outbox.specs.Outboxes.{outboxes_in}
use Rattle.cast_outbox.proofs.Entries.{set_same, none_taken, none_left}
use Rattle.cast_outbox.proofs.Kept.{held, absent, still, after_set}
use Rattle.cast_outbox.proofs.outboxes.Outboxes.take.Goals as goal

pub returns-in-Some-clause-value : goal.returns-in-Some-clause-value
returns-in-Some-clause-value c =
    let s = c.self.inside in
    let h = held s.names s.slots c.self.invariant c.args.domain c.args.serial c.in-Some.key (sym c.key_of.ensures ∙ c.in-Some.is) in
    rw (← c.self.view_is)
    (IfOk-weaker c.take_at.result _ _ (λ taken is. is h.0 h.1 ∙ ap (λ (xs : List Push). take c.args.most xs) (sym h.2))
    c.take_at.ensures.value)

pub invariant_of-self : goal.invariant_of-self
invariant_of-self c =
    let s = c.self.inside in
    either_way c.take_at.result
    (on_ok_weaker c.take_at.result (λ changes. (after_set s.names s.slots c.take_at.new.slots c.self.invariant c.args.domain c.args.serial
    (drop c.args.most) c.in-Some.key (sym c.key_of.ensures ∙ c.in-Some.is) changes).sound) c.take_at.ensures.ok)
    (on_err_weaker c.take_at.result (still s.names s.names s.slots c.take_at.new.slots c.self.invariant refl) c.take_at.ensures.err)

pub returns-in-Some-clause-ok : goal.returns-in-Some-clause-ok
returns-in-Some-clause-ok c =
    let s = c.self.inside in
    rw (← c.self.view_is)
    (on_ok_weaker c.take_at.result (λ changes. (after_set s.names s.slots c.take_at.new.slots c.self.invariant c.args.domain c.args.serial
    (drop c.args.most) c.in-Some.key (sym c.key_of.ensures ∙ c.in-Some.is) changes).own) c.take_at.ensures.ok)

pub returns-in-Some-clause-others : goal.returns-in-Some-clause-others
returns-in-Some-clause-others c e differ =
    let s = c.self.inside in
    rw (← c.self.view_is)
    (either_way c.take_at.result
    (on_ok_weaker c.take_at.result (λ changes. (after_set s.names s.slots c.take_at.new.slots c.self.invariant c.args.domain c.args.serial
    (drop c.args.most) c.in-Some.key (sym c.key_of.ensures ∙ c.in-Some.is) changes).others e differ) c.take_at.ensures.ok)
    (on_err_weaker c.take_at.result (λ (same : c.take_at.new.slots.slots ≡ s.slots.slots).
    ap (λ (xs : List (Option Pending)). outboxes_in xs e) same) c.take_at.ensures.err))

-- a serial with no outbox
pub returns-in-None-clause-value : goal.returns-in-None-clause-value
returns-in-None-clause-value c =
    let s = c.self.inside in
    let none = absent s.names s.slots c.self.invariant c.args.domain c.args.serial (sym c.key_of.ensures ∙ c.in-None.is) in
    rw (← c.self.view_is)
    (c.new.ensures ∙ sym (ap (λ (xs : List Push). take c.args.most xs) none ∙ none_taken c.args.most))

pub returns-in-None-clause-ok : goal.returns-in-None-clause-ok
returns-in-None-clause-ok c =
    let s = c.self.inside in
    let d = c.args.domain in
    let k = c.args.serial in
    let none = absent s.names s.slots c.self.invariant d k (sym c.key_of.ensures ∙ c.in-None.is) in
    rw (← c.self.view_is)
    (set_same (outboxes_in s.slots.slots d) k (drop c.args.most (outboxes_in s.slots.slots d k))
    (none ∙ sym (ap (λ (xs : List Push). drop c.args.most xs) none ∙ none_left c.args.most)))
