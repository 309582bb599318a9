use Rattle.cast_device.proofs.Written.{writes_part}
use Rattle.cast_session.proofs.Pushes.{wrote_push, wrote_push_part}
use Rattle.cast_session.proofs.outgoing.pump_out.Goals as goal

pub returns-in_err-write_whole-clause-written : goal.returns-in_err-write_whole-clause-written
returns-in_err-write_whole-clause-written g c =
    let part =
    rw (c.in_ok-add_push.ensures, c.clear.ensures.items) at (rw c.as_slice.ensures.value at c.in_err-write_whole.ensures.written) in
    writes_part c.from_residual-in_err-write_whole.result c.from_residual-in_err-write_whole.ensures.0
    (wrote_push_part c.args.pushes.now c.loop-push.push-index c.push-item.result c.loop-push-test.true c.push-item.is
    c.loop-push.invariant.0 part)

pub loop-push-preserved : goal.loop-push-preserved
loop-push-preserved g c =
    let more =
    rw (c.in_ok-add_push.ensures, c.clear.ensures.items) at (rw c.as_slice.ensures.value at c.in_ok-write_whole.ensures.written) in (
      wrote_push c.args.pushes.now c.loop-push.push-index c.push-item.result c.loop-push-test.true c.push-item.is
          c.loop-push.invariant.0 more,
      λ stalled. let refused = c.in_ok-write_whole.ensures.failed.1 stalled in cc,
    )
