use Rattle.cast_ready.proofs.Lows.{rises_sorted}
use Rattle.cast_ready.proofs.row.is_rising.Goals as goal

pub returns : goal.returns
returns c = λ _. rises_sorted c.args.standings.now c.loop-place.place c.loop-place-test.false c.loop-place.invariant.rises
