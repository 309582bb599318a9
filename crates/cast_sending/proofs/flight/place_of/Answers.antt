use Rattle.std.proofs.Common.{arith}
use Rattle.cast_sending.proofs.Parts.{none_marked}
use Rattle.cast_sending.proofs.flight.place_of.Goals as goal

pub returns : goal.returns
returns c =
    let line = c.args.line.now in
    none_marked line.items c.args.id
    (λ k d within. c.loop-place.invariant k d (omega (arith, within, c.loop-place-test.false, c.len-place-end.ensures, line.ok.0)))
