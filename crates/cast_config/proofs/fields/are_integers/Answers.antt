use Rattle.std.proofs.Common.{map, sym}
use Rattle.std.proofs.lemmas.Result.{err_from_is_err_and}
use Rattle.toml.specs.View.{view}
use Rattle.cast_config.specs.Fields.{all_pass, integer_of}
use Rattle.cast_config.proofs.Lists.{all_passed, passes_on, stops_at}
use Rattle.cast_config.proofs.fields.are_integers.Goals as goal

pub returns-in_err-integer_of : goal.returns-in_err-integer_of
returns-in_err-integer_of c =
    let p = err_from_is_err_and c.from_residual.result c.from_residual.ensures.1 in
    rw (p.1, p.2) (sym (stops_at view (integer_of c.args.field)
    c.args.items.now c.loop-item.item-index _ c.in_err-integer_of.field-0.0 (all_pass (integer_of c.args.field) (map view c.args.items.now))
    c.loop-item-test.true (sym (rw c.item-item.is at c.in_err-integer_of.ensures)) c.loop-item.invariant))

pub loop-item-preserved : goal.loop-item-preserved
loop-item-preserved c =
    passes_on view (integer_of c.args.field)
    c.args.items.now c.loop-item.item-index _ c.in_ok-integer_of.field-0 (all_pass (integer_of c.args.field) (map view c.args.items.now))
    c.loop-item-test.true (sym (rw c.item-item.is at c.in_ok-integer_of.ensures)) c.loop-item.invariant

pub returns : goal.returns
returns c =
    sym (all_passed view (integer_of c.args.field) c.args.items.now c.loop-item.item-index
    (all_pass (integer_of c.args.field) (map view c.args.items.now)) c.loop-item-test.false c.loop-item.invariant)
