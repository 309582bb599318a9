use Rattle.std.proofs.Common.{arith}
use Rattle.std.proofs.lemmas.Grind.{common_steps}
use Rattle.cast_table.proofs.Places.{named_more}
use Rattle.cast_table.proofs.table.places_of.Goals as goal

pub loop-place-preserved : goal.loop-place-preserved
loop-place-preserved c = λ n.
    let more =
    named_more n c.deref-domain-items.result.now c.loop-place.place c.domain-item.result c.loop-place-test.true c.domain-item.is in
    let number = c.number.ensures in
    grind (arith, common_steps, c.loop-place.invariant n)
