use Rattle.std.proofs.Common.{◌<◌, length, refl, ◌∙◌, arith}
use Rattle.std.proofs.Math.ListN.{length-set}
use Rattle.cast_sending.proofs.Parts.{same_marks}
use Rattle.cast_sending.proofs.flight.count_later.Goals as goal

pub loop-place-preserved : goal.loop-place-preserved
loop-place-preserved c =
    let items = c.loop-place.line.items in
    let place = c.loop-place.place in
    let within : c.loop-place.place < length items =
    omega (arith, c.requires, c.loop-place-test.true, c.loop-place.invariant.long) in
    record {
      same = same_marks items place c.index_mut.result.now _ within c.index_mut.ensures.value refl ∙ c.loop-place.invariant.same;
      long = length-set items c.loop-place.place _ ∙ c.loop-place.invariant.long;
    }
