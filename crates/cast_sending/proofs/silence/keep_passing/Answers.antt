use Rattle.std.proofs.Common.{◌<◌, ◌≤◌, length, arith}
use Rattle.cast_sending.proofs.Passing.{one_is_left, one_passes, all_passed}
use Rattle.cast_sending.proofs.silence.keep_passing.Goals as goal

pub loop-place-preserved-then-not-may_pass : goal.loop-place-preserved-then-not-may_pass
loop-place-preserved-then-not-may_pass c =
    let within : c.loop-place.place < length c.args.frames.now.items = omega (arith, c.args.frames.now.ok.0) in
    one_is_left c.index.result.now c.loop-place.invariant within c.index.ensures c.if-not-may_pass.ensures

pub loop-place-preserved : goal.loop-place-preserved
loop-place-preserved c =
    let within : c.loop-place.place < length c.args.frames.now.items = omega (arith, c.args.frames.now.ok.0) in
    one_passes c.index.result.now c.loop-place.invariant within c.index.ensures c.if-not-may_pass.ensures c.swap.ensures.by_index

pub returns : goal.returns
returns c =
    let end : length c.args.frames.now.items ≤ c.loop-place.place = omega (arith, c.args.frames.now.ok.0) in
    rw c.truncate.ensures.items (all_passed c.loop-place.invariant end)
