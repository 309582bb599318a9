use Rattle.std.proofs.lemmas.Result.{err_from_is_err_and}
use Rattle.cast_field.specs.Reading.{many, id_at, nothing_of}
use Rattle.cast_field.proofs.Many.{goes_on, ends, is_done}
use Rattle.cast_field.proofs.reading.read_ids.Goals as goal

pub returns-in_err-id : goal.returns-in_err-id
unfolding id_at
returns-in_err-id c =
    let p = err_from_is_err_and c.from_residual.result c.from_residual.ensures.1 in
    rw (p.1, p.2) (ends id_at nothing_of c.in_err-id.field-0.0 c.loop.ids.items c.args.count c.loop.counter tt c.loop.rest.now
    (many id_at nothing_of c.args.count tt c.args.bytes.now) c.loop-test.true c.in_err-id.ensures c.loop.invariant)

pub loop-preserved : goal.loop-preserved
unfolding id_at
loop-preserved c =
    rw c.in_ok-push.ensures.items (goes_on id_at nothing_of c.loop.ids.items c.args.count c.loop.counter tt c.loop.rest.now c.in_ok-id.id
    c.in_ok-id.after.now (many id_at nothing_of c.args.count tt c.args.bytes.now) c.loop-test.true c.in_ok-id.ensures c.loop.invariant)

pub returns : goal.returns
returns c =
    is_done id_at nothing_of c.loop.ids.items c.args.count c.loop.counter tt c.loop.rest.now
    (many id_at nothing_of c.args.count tt c.args.bytes.now) c.loop-test.false c.loop.invariant
