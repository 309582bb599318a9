use Rattle.std.proofs.Common.{None}
use Rattle.std.proofs.lemmas.Result.{err_from_is_err_and}
use Rattle.cast_field.specs.Reading.{many, clock_above, group_of}
use Rattle.cast_field.proofs.Many.{goes_on, ends, is_done}
use Rattle.cast_field.proofs.reading.read_clocks.Goals as goal

pub returns-in_err-clock : goal.returns-in_err-clock
returns-in_err-clock c =
    let p = err_from_is_err_and c.from_residual.result c.from_residual.ensures.1 in
    rw (p.1, p.2) (ends clock_above group_of c.in_err-clock.field-0.0 c.loop.clocks.items c.args.count c.loop.counter c.loop.last
    c.loop.rest.now (many clock_above group_of c.args.count None c.args.bytes.now) c.loop-test.true c.in_err-clock.ensures c.loop.invariant)

pub loop-preserved : goal.loop-preserved
loop-preserved c =
    rw c.in_ok-push.ensures.items (goes_on clock_above group_of c.loop.clocks.items c.args.count c.loop.counter c.loop.last c.loop.rest.now
    c.in_ok-clock.clock c.in_ok-clock.after.now (many clock_above group_of c.args.count None c.args.bytes.now)
    c.loop-test.true c.in_ok-clock.ensures c.loop.invariant)

pub returns : goal.returns
returns c =
    is_done clock_above group_of c.loop.clocks.items c.args.count c.loop.counter c.loop.last c.loop.rest.now
    (many clock_above group_of c.args.count None c.args.bytes.now) c.loop-test.false c.loop.invariant
