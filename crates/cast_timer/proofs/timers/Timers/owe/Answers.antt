use Rattle.std.proofs.Common.{ap, sym, subst, ◌∙◌}
use Rattle.std.specs.Prelude.{is_some}
use Rattle.std.proofs.lemmas.Result.{on_ok_weaker}
use Rattle.std.proofs.lemmas.Bool.{false≢true}
use Rattle.cast_timer.specs.declared.key.Owed.{Owed}
use Rattle.cast_timer.specs.Index.{due_of, IsIndexed}
use Rattle.cast_timer.proofs.Tables.{table_found, kept_of, fresh_of, own_owed, others_after, indexed_same, indexed_written}
use Rattle.cast_timer.proofs.timers.Timers.owe.Goals as goal

pub invariant_of-self : goal.invariant_of-self
invariant_of-self c =
    let s = c.self.inside in
    indexed_same s.moments.entries s.dues.entries c.open.new.tables.entries c.self.invariant c.open.ensures.same

pub owe_in-requires-clause-kept : goal.owe_in-requires-clause-kept
owe_in-requires-clause-kept c =
    let s = c.self.inside in
    let tables = c.open.new.tables.entries in
    let indexed = indexed_same s.moments.entries s.dues.entries tables c.self.invariant c.open.ensures.same in
    kept_of s.moments.entries tables c.args.domain c.in-Some.dues.now indexed
    (sym (c.in-Some.ensures.value ∙ table_found c.args.domain tables))

pub owe_in-requires-clause-fresh : goal.owe_in-requires-clause-fresh
owe_in-requires-clause-fresh c =
    let s = c.self.inside in
    let tables = c.open.new.tables.entries in
    let indexed = indexed_same s.moments.entries s.dues.entries tables c.self.invariant c.open.ensures.same in
    let kept =
    kept_of s.moments.entries tables c.args.domain c.in-Some.dues.now indexed
    (sym (c.in-Some.ensures.value ∙ table_found c.args.domain tables)) in
    fresh_of c.args.domain s.moments.entries c.in-Some.dues.now.entries c.args.key kept (rw c.self.view_is c.requires)

pub invariant_of-self-in-Some : goal.invariant_of-self-in-Some
invariant_of-self-in-Some c =
    let s = c.self.inside in
    let w = c.owe_in.new.dues in
    let tables = c.open.new.tables.entries in
    let written = c.get_mut.follows.holds w in
    indexed_written c.args.domain s.moments.entries c.owe_in.new.moments.entries tables
    (c.get_mut.follows.lender w).entries c.in-Some.dues.now w
    (indexed_same s.moments.entries s.dues.entries tables c.self.invariant c.open.ensures.same)
    c.owe_in.ensures.kept (written.3 (ap is_some (sym c.in-Some.ensures.value))).0

pub invariant_of-self-in-None : goal.invariant_of-self-in-None
invariant_of-self-in-None c =
    let s = c.self.inside in
    subst (λ m. IsIndexed s.moments.entries m.entries) (sym c.get_mut.follows.holds-at-none)
    (indexed_same s.moments.entries s.dues.entries c.open.new.tables.entries c.self.invariant c.open.ensures.same)

pub returns-in-Some-clause-own : goal.returns-in-Some-clause-own
returns-in-Some-clause-own c =
    let s = c.self.inside in
    let d = c.args.domain in
    let x : Owed = record { due = c.args.due; key = c.args.key } in
    let tables = c.open.new.tables.entries in
    let dues = c.in-Some.dues.now.entries in
    let indexed = indexed_same s.moments.entries s.dues.entries tables c.self.invariant c.open.ensures.same in
    let kept = kept_of s.moments.entries tables d c.in-Some.dues.now indexed (sym (c.in-Some.ensures.value ∙ table_found d tables)) in
    let fresh = fresh_of d s.moments.entries dues c.args.key kept (rw c.self.view_is c.requires) in
    rw (← c.self.view_is)
    (on_ok_weaker c.owe_in.result
    (own_owed d s.moments.entries c.owe_in.new.moments.entries dues c.owe_in.new.dues.entries x kept c.owe_in.ensures.kept fresh)
    c.owe_in.ensures.ok)

pub returns-in-Some-clause-others : goal.returns-in-Some-clause-others
returns-in-Some-clause-others c e differ =
    let s = c.self.inside in
    rw (← c.self.view_is) (others_after c.args.domain s.moments.entries c.owe_in.new.moments.entries s.dues.entries
    (due_of c.owe_in.new.dues.entries) c.self.invariant c.owe_in.ensures.kept e differ)

-- there is a map for the domain
pub returns-in-None-clause-own : goal.returns-in-None-clause-own
returns-in-None-clause-own c =
    absurd
    (false≢true (ap is_some (c.in-None.ensures.value ∙ table_found c.args.domain c.open.new.tables.entries) ∙ c.in_ok-open.ensures.ok))
