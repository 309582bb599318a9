use Rattle.cast_datagrams.specs.Typed.{FitsSent}
use Rattle.cast_datagrams.proofs.Lists.{one_more}
use Rattle.cast_datagrams.proofs.typed.frames_fit.Goals as goal

pub loop-sent-preserved : goal.loop-sent-preserved
loop-sent-preserved c =
    one_more FitsSent c.args.frames.now c.loop-sent.sent-index c.sent-item.result c.loop-sent-test.true c.sent-item.is
    c.loop-sent.invariant c.sent_fits.ensures
