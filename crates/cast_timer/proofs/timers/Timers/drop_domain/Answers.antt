use Rattle.std.proofs.Common.{None, sym, subst, ◌∙◌}
use Rattle.cast_timer.specs.Index.{due_of, IsIndexed}
use Rattle.cast_timer.proofs.Tables.{table_found, table_here, kept_of, owed_none, others_after, indexed_gone}
use Rattle.cast_timer.proofs.timers.Timers.drop_domain.Goals as goal

pub drop_in-requires : goal.drop_in-requires
drop_in-requires c =
    let s = c.self.inside in
    kept_of s.moments.entries s.dues.entries c.args.domain c.in-Some.dues c.self.invariant
    (sym (c.in-Some.ensures.value ∙ table_found c.args.domain s.dues.entries))

pub invariant_of-self : goal.invariant_of-self
invariant_of-self c =
    let s = c.self.inside in
    indexed_gone c.args.domain s.moments.entries c.drop_in.new.moments.entries s.dues.entries c.remove.new.self.entries
    c.drop_in.new.dues.entries c.self.invariant c.drop_in.ensures.kept c.drop_in.ensures.none c.remove.ensures.updates.0

-- the maps are as they were
pub invariant_of-self-in_default : goal.invariant_of-self-in_default
invariant_of-self-in_default c = subst (IsIndexed c.self.inside.moments.entries) (sym c.in_default.ensures.unchanged) c.self.invariant

pub returns-in-Some-clause-own : goal.returns-in-Some-clause-own
returns-in-Some-clause-own c =
    let s = c.self.inside in
    let d = c.args.domain in
    owed_none c.drop_in.new.moments.entries c.remove.new.self.entries d
    (indexed_gone d s.moments.entries c.drop_in.new.moments.entries s.dues.entries c.remove.new.self.entries c.drop_in.new.dues.entries
    c.self.invariant c.drop_in.ensures.kept c.drop_in.ensures.none c.remove.ensures.updates.0)
    (table_here d None s.dues.entries c.remove.new.self.entries c.remove.ensures.updates.0)

pub returns-in-Some-clause-others : goal.returns-in-Some-clause-others
returns-in-Some-clause-others c e differ =
    let s = c.self.inside in
    rw (← c.self.view_is) (others_after c.args.domain s.moments.entries c.drop_in.new.moments.entries s.dues.entries
    (due_of c.drop_in.new.dues.entries) c.self.invariant c.drop_in.ensures.kept e differ)

pub returns-in_default-clause-own : goal.returns-in_default-clause-own
returns-in_default-clause-own c =
    let s = c.self.inside in
    owed_none s.moments.entries s.dues.entries c.args.domain c.self.invariant
    (sym (c.in_default.ensures.value ∙ table_found c.args.domain s.dues.entries))
