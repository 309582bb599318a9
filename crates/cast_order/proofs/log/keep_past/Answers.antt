use Rattle.std.proofs.Common.{◌∙◌}
use Rattle.cast_order.proofs.Told.{all_past}
use Rattle.cast_order.proofs.log.keep_past.Goals as goal

pub returns-then-known-place : goal.returns-then-known-place
returns-then-known-place c =
    all_past c.args.known c.in-Some.place.now c.loop-place.facts.entries c.if-known-place.true c.in-Some.ensures.all_from
    ∙ c.loop-place.invariant
