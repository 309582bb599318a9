use Rattle.cast_datagrams.specs.Typed.{FitsClock}
use Rattle.cast_datagrams.proofs.Lists.{one_more}
use Rattle.cast_datagrams.proofs.typed.clocks_fit.Goals as goal

pub loop-entry-preserved : goal.loop-entry-preserved
loop-entry-preserved c =
    one_more FitsClock c.args.clocks.now c.loop-entry.entry-index c.entry-item.result c.loop-entry-test.true c.entry-item.is
    c.loop-entry.invariant c.clock_fits.ensures
