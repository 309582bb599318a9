use Rattle.std.proofs.Common.{List, ap, sym, subst, ◌∙◌}
use Rattle.std.specs.Prelude.{is_some}
use Rattle.std.proofs.lemmas.Result.{on_ok_weaker}
use Rattle.cast_timer.specs.declared.key.Owed.{Owed}
use Rattle.cast_timer.specs.Owed.{all_renewed}
use Rattle.cast_timer.specs.Rows.{owed_in}
use Rattle.cast_timer.specs.Index.{due_of, IsIndexed}
use Rattle.cast_timer.proofs.AllRenewed.{all_moved}
use Rattle.cast_timer.proofs.Kept.{index_of}
use Rattle.cast_timer.proofs.Tables.{table_found, kept_of, owed_none, others_after, indexed_written}
use Rattle.cast_timer.proofs.timers.Timers.renew_due.Goals as goal

pub renew_due_in-requires : goal.renew_due_in-requires
renew_due_in-requires c =
    let s = c.self.inside in
    kept_of s.moments.entries s.dues.entries c.args.domain c.in-Some.dues.now c.self.invariant
    (sym (c.in-Some.ensures.value ∙ table_found c.args.domain s.dues.entries))

pub invariant_of-self : goal.invariant_of-self
invariant_of-self c =
    let s = c.self.inside in
    let w = c.renew_due_in.new.dues in
    let written = c.get_mut.follows.holds w in
    indexed_written c.args.domain s.moments.entries c.renew_due_in.new.moments.entries s.dues.entries (c.get_mut.follows.lender w).entries
    c.in-Some.dues.now w c.self.invariant c.renew_due_in.ensures.kept (written.3 (ap is_some (sym c.in-Some.ensures.value))).0

pub invariant_of-self-in-None : goal.invariant_of-self-in-None
invariant_of-self-in-None c =
    subst (λ m. IsIndexed c.self.inside.moments.entries m.entries) (sym c.get_mut.follows.holds-at-none) c.self.invariant

pub returns-in-Some-clause-own : goal.returns-in-Some-clause-own
returns-in-Some-clause-own c =
    let s = c.self.inside in
    let d = c.args.domain in
    let rows = s.moments.entries in
    let new = c.renew_due_in.new.moments.entries in
    let was = due_of c.in-Some.dues.now.entries in
    let now = due_of c.renew_due_in.new.dues.entries in
    let kept =
    kept_of rows s.dues.entries d c.in-Some.dues.now c.self.invariant (sym (c.in-Some.ensures.value ∙ table_found d s.dues.entries)) in
    rw (← c.self.view_is)
    (on_ok_weaker c.renew_due_in.result
    (λ is. all_moved c.args.now c.args.due was (owed_in rows d) (index_of d rows was kept) now (owed_in new d)
    is (index_of d new now c.renew_due_in.ensures.kept.kept))
    c.renew_due_in.ensures.ok)

pub returns-in-Some-clause-others : goal.returns-in-Some-clause-others
returns-in-Some-clause-others c e differ =
    let s = c.self.inside in
    rw (← c.self.view_is) (others_after c.args.domain s.moments.entries c.renew_due_in.new.moments.entries s.dues.entries
    (due_of c.renew_due_in.new.dues.entries) c.self.invariant c.renew_due_in.ensures.kept e differ)

-- a domain without a map owes nothing, before and after
pub returns-in-None-clause-own : goal.returns-in-None-clause-own
returns-in-None-clause-own c =
    let s = c.self.inside in
    let none =
    owed_none s.moments.entries s.dues.entries c.args.domain c.self.invariant
    (sym (c.in-None.ensures.value ∙ table_found c.args.domain s.dues.entries)) in
    rw (← c.self.view_is) (none ∙ sym (ap (λ (os : List Owed). all_renewed c.args.now c.args.due os) none))
