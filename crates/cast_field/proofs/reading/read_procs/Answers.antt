use Rattle.std.proofs.Common.{None}
use Rattle.std.proofs.lemmas.Result.{err_from_is_err_and}
use Rattle.cast_field.specs.Reading.{many, proc_above, some_proc}
use Rattle.cast_field.proofs.Many.{goes_on, ends, is_done}
use Rattle.cast_field.proofs.reading.read_procs.Goals as goal

pub returns-in_err-proc : goal.returns-in_err-proc
returns-in_err-proc c =
    let p = err_from_is_err_and c.from_residual.result c.from_residual.ensures.1 in
    rw (p.1, p.2) (ends proc_above some_proc c.in_err-proc.field-0.0 c.loop.procs.items c.args.count c.loop.counter c.loop.last
    c.loop.rest.now (many proc_above some_proc c.args.count None c.args.bytes.now) c.loop-test.true c.in_err-proc.ensures c.loop.invariant)

pub loop-preserved : goal.loop-preserved
loop-preserved c =
    rw c.in_ok-push.ensures.items (goes_on proc_above some_proc c.loop.procs.items c.args.count c.loop.counter c.loop.last c.loop.rest.now
    c.in_ok-proc.proc c.in_ok-proc.after.now (many proc_above some_proc c.args.count None c.args.bytes.now)
    c.loop-test.true c.in_ok-proc.ensures c.loop.invariant)

pub returns : goal.returns
returns c =
    is_done proc_above some_proc c.loop.procs.items c.args.count c.loop.counter c.loop.last c.loop.rest.now
    (many proc_above some_proc c.args.count None c.args.bytes.now) c.loop-test.false c.loop.invariant
