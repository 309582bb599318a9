use Rattle.std.proofs.Common.{◌<◌, length, arith}
use Rattle.cast_edge.specs.Endings.{ahead, changed}
use Rattle.cast_sending.proofs.Passing.{all_ticked}
use Rattle.cast_edge.proofs.endings.change_each.Goals as goal

pub loop-one-preserved : goal.loop-one-preserved
loop-one-preserved c =
    let inside : c.loop-one.one-index < length c.loop-one.endings = omega arith in
    let more =
    all_ticked (changed c.args.number c.args.change) c.args.endings.now c.loop-one.endings c.loop-one.one-index (ahead 0)
    c.loop-one-test.true inside c.loop-one.invariant.before c.loop-one.invariant.after in
    record { before = rw c.changed.ensures more.0; after = rw c.changed.ensures more.1 }
