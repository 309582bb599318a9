use Rattle.std.proofs.Common.{refl}
use Rattle.cast_pool.proofs.Posts.{answered_none, answered_one}
use Rattle.cast_pool.proofs.worker.work.Goals as goal

pub loop-init : goal.loop-init
loop-init g c = record { parts = refl; answered = answered_none _ _ _ }

pub loop-preserved : goal.loop-preserved
loop-preserved g c = record {
  parts = cc;
  answered =
      answered_one _ _ _ _ _ _ _ _ _ c.in-Some-take.raw c.answer.result c.loop.invariant.answered c.in-Some-take.ensures.some
      c.in-Some-take.ensures.sent
      (record { number = c.answer.ensures.number; was = _; now = _; answered = c.answer.ensures.answered }) c.send.ensures.sent
      c.send.ensures.taken;
}
