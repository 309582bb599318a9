use Rattle.std.proofs.Common.{List, subst}
use Rattle.std.specs.BTreeMap.Range.{IsRangeOf}
use Rattle.std.specs.declared.ops.Bound.TheVariants.{Included}
use Rattle.cast_timer.specs.declared.key.Moment.{Moment}
use Rattle.cast_timer.specs.Rows.{Row}
use Rattle.cast_timer.specs.contracts.key.MomentOrd.TheImpl as moments
use Rattle.cast_timer.proofs.Searches.{first_found, none_found}
use Rattle.cast_timer.proofs.moments.first_between.Goals as goal

pub returns-in-Some-clause-some : goal.returns-in-Some-clause-some
returns-in-Some-clause-some c =
    let m = c.args.moments.now in
    first_found m c.args.domain c.args.from c.args.upto c.in-Some.moment.now c.in-Some.field-0-1.now c.next.new.self
    (subst (λ (t : Moment × Moment × List Row). IsRangeOf moments.cmp-value.it (Included t.0) (Included t.1) m t.2)
    (λ i. (c.new.ensures.start i, c.new.ensures.end i, c.in-Some.ensures.steps i))
    (c.range.ensures.in_range c.new.ensures.exhausted))

pub returns-in-None-clause-none : goal.returns-in-None-clause-none
returns-in-None-clause-none c =
    let m = c.args.moments.now in
    none_found m c.args.domain c.args.from c.args.upto
    (subst (λ (t : Moment × Moment × List Row). IsRangeOf moments.cmp-value.it (Included t.0) (Included t.1) m t.2)
    (λ i. (c.new.ensures.start i, c.new.ensures.end i, c.in-None.ensures.steps.0 i))
    (c.range.ensures.in_range c.new.ensures.exhausted))
