use Rattle.std.proofs.Common.{◌∙◌}
use Rattle.cast_device.proofs.Written.{wrote_more}
use Rattle.cast_device.proofs.whole.write_whole.Goals as goal

pub loop-rest-preserved-in-Ok : goal.loop-rest-preserved-in-Ok
loop-rest-preserved-in-Ok g c = (
  wrote_more c.in-Ok.count c.loop-rest.invariant.0 c.in-Ok.ensures.bytes,
  λ was. absurd (let stalled = c.has_failed_or_stalled.ensures.1 (c.loop-rest.invariant.1 was) in let test = c.loop-rest-test.true in cc),
  c.in-Ok.ensures.calls ∙ c.loop-rest.invariant.2,
)
