use Rattle.std.proofs.Common.{None}
use Rattle.std.proofs.lemmas.Result.{err_from_is_err_and}
use Rattle.cast_field.specs.Reading.{many, entry_above, process_of}
use Rattle.cast_field.proofs.Many.{goes_on, ends, is_done}
use Rattle.cast_field.proofs.reading.read_entries.Goals as goal

pub returns-in_err-entry : goal.returns-in_err-entry
returns-in_err-entry c =
    let p = err_from_is_err_and c.from_residual.result c.from_residual.ensures.1 in
    rw (p.1, p.2)
    (ends entry_above process_of c.in_err-entry.field-0.0 c.loop.entries.items c.args.count c.loop.counter c.loop.last c.loop.rest.now
    (many entry_above process_of c.args.count None c.args.bytes.now) c.loop-test.true c.in_err-entry.ensures c.loop.invariant)

pub loop-preserved : goal.loop-preserved
loop-preserved c =
    rw c.in_ok-push.ensures.items (goes_on entry_above process_of c.loop.entries.items c.args.count c.loop.counter c.loop.last
    c.loop.rest.now c.in_ok-entry.entry c.in_ok-entry.after.now (many entry_above process_of c.args.count None c.args.bytes.now)
    c.loop-test.true c.in_ok-entry.ensures c.loop.invariant)

pub returns : goal.returns
returns c =
    is_done entry_above process_of c.loop.entries.items c.args.count c.loop.counter c.loop.last c.loop.rest.now
    (many entry_above process_of c.args.count None c.args.bytes.now) c.loop-test.false c.loop.invariant
