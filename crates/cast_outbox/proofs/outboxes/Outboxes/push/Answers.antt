use Rattle.std.proofs.Common.{◌≡◌, ℕ, List, Option, refl, ap, sym, ◌∙◌}
use Rattle.std.proofs.lemmas.Result.{IfOk-weaker, on_ok_weaker, on_err_weaker}
use Rattle.cast_types.proofs.Results.{either_way}
use Rattle.cast_message.specs.declared.client.Push.{Push}
use Rattle.cast_outbox.specs.declared.outbox.Pushed.{Pushed}
use Rattle.cast_outbox.specs.Pending.{Pending, with_entry, told_at}
use Rattle.cast_outbox.specs.Outboxes.{outboxes_in}
use Rattle.cast_outbox.proofs.Kept.{held, absent, still, on_err_both, after_set, after_add}
use Rattle.cast_outbox.proofs.outboxes.Outboxes.push.Goals as goal

-- what is told where these are the entries
told : ℕ → List Push → Pushed
told limit entries = told_at limit entries

pub returns-in-Some-clause-value : goal.returns-in-Some-clause-value
unfolding told
returns-in-Some-clause-value c =
    let s = c.self.inside in
    let h = held s.names s.slots c.self.invariant c.args.domain c.args.serial c.in-Some.key (sym c.key_of.ensures ∙ c.in-Some.is) in
    rw (← c.self.view_is)
    (IfOk-weaker c.push_at.result _ _ (λ p is. is h.0 h.1 ∙ ap (told c.args.limit) (sym h.2)) c.push_at.ensures.value)

pub returns-in-None-clause-value : goal.returns-in-None-clause-value
unfolding told
returns-in-None-clause-value c =
    let s = c.self.inside in
    let none = sym c.key_of.ensures ∙ c.in-None.is in
    rw (← c.self.view_is)
    (IfOk-weaker c.push_first.result _ _ (λ p is. is
    ∙ ap (told c.args.limit) (sym (absent s.names s.slots c.self.invariant c.args.domain c.args.serial none))) c.push_first.ensures.value)

pub invariant_of-self-in-None : goal.invariant_of-self-in-None
invariant_of-self-in-None c =
    let s = c.self.inside in
    let none = sym c.key_of.ensures ∙ c.in-None.is in
    either_way c.push_first.result
    (on_ok_weaker c.push_first.result (λ added. (after_add s.names c.push_first.new.names s.slots c.push_first.new.slots c.self.invariant
    c.args.domain c.args.serial (with_entry c.args.limit c.args.entry) none added).sound) c.push_first.ensures.ok)
    (on_err_both c.push_first.result (still s.names c.push_first.new.names s.slots c.push_first.new.slots c.self.invariant)
    c.push_first.ensures.names_stay c.push_first.ensures.slots_stay)

pub invariant_of-self : goal.invariant_of-self
invariant_of-self c =
    let s = c.self.inside in
    either_way c.push_at.result
    (on_ok_weaker c.push_at.result (λ changes. (after_set s.names s.slots c.push_at.new.slots c.self.invariant c.args.domain c.args.serial
    (with_entry c.args.limit c.args.entry) c.in-Some.key (sym c.key_of.ensures ∙ c.in-Some.is) changes).sound) c.push_at.ensures.ok)
    (on_err_weaker c.push_at.result (still s.names s.names s.slots c.push_at.new.slots c.self.invariant refl) c.push_at.ensures.err)

pub returns-in-Some-clause-ok : goal.returns-in-Some-clause-ok
returns-in-Some-clause-ok c =
    let s = c.self.inside in
    rw (← c.self.view_is)
    (on_ok_weaker c.push_at.result (λ changes. (after_set s.names s.slots c.push_at.new.slots c.self.invariant c.args.domain c.args.serial
    (with_entry c.args.limit c.args.entry) c.in-Some.key (sym c.key_of.ensures ∙ c.in-Some.is) changes).own) c.push_at.ensures.ok)

pub returns-in-Some-clause-others : goal.returns-in-Some-clause-others
returns-in-Some-clause-others c e differ =
    let s = c.self.inside in
    rw (← c.self.view_is)
    (either_way c.push_at.result
    (on_ok_weaker c.push_at.result (λ changes.
    (after_set s.names s.slots c.push_at.new.slots c.self.invariant c.args.domain c.args.serial (with_entry c.args.limit c.args.entry)
    c.in-Some.key (sym c.key_of.ensures ∙ c.in-Some.is) changes).others e differ) c.push_at.ensures.ok)
    (on_err_weaker c.push_at.result (λ (same : c.push_at.new.slots.slots ≡ s.slots.slots).
    ap (λ (xs : List (Option Pending)). outboxes_in xs e) same) c.push_at.ensures.err))

pub returns-in-None-clause-ok : goal.returns-in-None-clause-ok
returns-in-None-clause-ok c =
    let s = c.self.inside in
    let none = sym c.key_of.ensures ∙ c.in-None.is in
    rw (← c.self.view_is)
    (on_ok_weaker c.push_first.result (λ added. (after_add s.names c.push_first.new.names s.slots c.push_first.new.slots c.self.invariant
    c.args.domain c.args.serial (with_entry c.args.limit c.args.entry) none added).own) c.push_first.ensures.ok)

pub returns-in-None-clause-others : goal.returns-in-None-clause-others
returns-in-None-clause-others c e differ =
    let s = c.self.inside in
    let none = sym c.key_of.ensures ∙ c.in-None.is in
    rw (← c.self.view_is)
    (either_way c.push_first.result
    (on_ok_weaker c.push_first.result (λ added. (after_add s.names c.push_first.new.names s.slots c.push_first.new.slots c.self.invariant
    c.args.domain c.args.serial (with_entry c.args.limit c.args.entry) none added).others e differ) c.push_first.ensures.ok)
    (on_err_weaker c.push_first.result (λ (same : c.push_first.new.slots.slots ≡ s.slots.slots).
    ap (λ (xs : List (Option Pending)). outboxes_in xs e) same) c.push_first.ensures.slots_stay))
