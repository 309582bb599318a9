use Rattle.std.proofs.Common.{List, ap, sym, subst, ◌∙◌}
use Rattle.std.specs.Prelude.{is_some}
use Rattle.cast_timer.specs.Owed.{is_upto, paid}
use Rattle.cast_timer.specs.Index.{due_of, IsIndexed}
use Rattle.cast_timer.specs.declared.key.Owed.{Owed}
use Rattle.cast_timer.proofs.Tables.{table_found, kept_of, owed_none, own_paid, others_after, indexed_written}
use Rattle.cast_timer.proofs.timers.Timers.pay_upto.Goals as goal

pub pay_upto_in-requires : goal.pay_upto_in-requires
pay_upto_in-requires c =
    let s = c.self.inside in
    kept_of s.moments.entries s.dues.entries c.args.domain c.in-Some.dues.now c.self.invariant
    (sym (c.in-Some.ensures.value ∙ table_found c.args.domain s.dues.entries))

pub invariant_of-self : goal.invariant_of-self
invariant_of-self c =
    let s = c.self.inside in
    let w = c.pay_upto_in.new.dues in
    let written = c.get_mut.follows.holds w in
    indexed_written c.args.domain s.moments.entries c.pay_upto_in.new.moments.entries s.dues.entries (c.get_mut.follows.lender w).entries
    c.in-Some.dues.now w c.self.invariant c.pay_upto_in.ensures.kept (written.3 (ap is_some (sym c.in-Some.ensures.value))).0

pub invariant_of-self-in_default : goal.invariant_of-self-in_default
invariant_of-self-in_default c =
    subst (λ m. IsIndexed c.self.inside.moments.entries m.entries) (sym c.get_mut.follows.holds-at-none) c.self.invariant

pub returns-in-Some-clause-own : goal.returns-in-Some-clause-own
returns-in-Some-clause-own c =
    let s = c.self.inside in
    let dues = c.in-Some.dues.now.entries in
    let kept =
    kept_of s.moments.entries s.dues.entries c.args.domain c.in-Some.dues.now c.self.invariant
    (sym (c.in-Some.ensures.value ∙ table_found c.args.domain s.dues.entries)) in
    rw (← c.self.view_is) (own_paid c.args.domain s.moments.entries c.pay_upto_in.new.moments.entries dues c.pay_upto_in.new.dues.entries
    (is_upto c.args.key.now) kept c.pay_upto_in.ensures.kept c.pay_upto_in.ensures.paid)

pub returns-in-Some-clause-others : goal.returns-in-Some-clause-others
returns-in-Some-clause-others c e differ =
    let s = c.self.inside in
    rw (← c.self.view_is) (others_after c.args.domain s.moments.entries c.pay_upto_in.new.moments.entries s.dues.entries
    (due_of c.pay_upto_in.new.dues.entries) c.self.invariant c.pay_upto_in.ensures.kept e differ)

-- a domain without a map owes nothing, before and after
pub returns-in_default-clause-own : goal.returns-in_default-clause-own
returns-in_default-clause-own c =
    let s = c.self.inside in
    let none =
    owed_none s.moments.entries s.dues.entries c.args.domain c.self.invariant
    (sym (c.in_default.ensures.value ∙ table_found c.args.domain s.dues.entries)) in
    rw (← c.self.view_is) (none ∙ sym (ap (λ (os : List Owed). paid (is_upto c.args.key.now) os) none))
