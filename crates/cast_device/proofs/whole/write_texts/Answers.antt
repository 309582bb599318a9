use Rattle.cast_device.proofs.Written.{writes_part}
use Rattle.cast_device.proofs.Pieces.{wrote_next, wrote_next_part}
use Rattle.cast_device.proofs.whole.write_texts.Goals as goal

pub returns-in_err-write_whole-clause-written : goal.returns-in_err-write_whole-clause-written
returns-in_err-write_whole-clause-written g c =
    writes_part c.from_residual.result c.from_residual.ensures.0
    (wrote_next_part (λ text. text.now) c.args.texts.now c.loop-text.text-index _ c.loop-text-test.true c.loop-text.invariant
    (rw c.as_bytes.ensures.value at c.in_err-write_whole.ensures.written))

pub loop-text-preserved : goal.loop-text-preserved
loop-text-preserved g c =
    wrote_next (λ text. text.now) c.args.texts.now c.loop-text.text-index _ c.loop-text-test.true c.loop-text.invariant
    (rw c.as_bytes.ensures.value at c.in_ok-write_whole.ensures.written)
