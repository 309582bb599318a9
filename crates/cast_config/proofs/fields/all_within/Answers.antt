use Rattle.std.proofs.Common.{map, sym}
use Rattle.std.proofs.lemmas.Result.{err_from_is_err_and}
use Rattle.toml.specs.View.{view}
use Rattle.cast_script.specs.WordReadings.{each}
use Rattle.cast_script.proofs.Each.{ends, goes_on, is_done}
use Rattle.cast_config.specs.Fields.{number_of}
use Rattle.cast_config.proofs.fields.all_within.Goals as goal

pub returns-in_err-short_number_of : goal.returns-in_err-short_number_of
returns-in_err-short_number_of c =
    let p = err_from_is_err_and c.from_residual.result c.from_residual.ensures.1 in
    rw (p.1, p.2) (λ _. ends view (number_of c.args.field 1 65535) c.loop-item.numbers.items c.args.items.now c.loop-item.item-index _
    c.in_err-short_number_of.field-0.0 (each (number_of c.args.field 1 65535) (map view c.args.items.now))
    c.loop-item-test.true (sym (rw c.item-item.is at c.in_err-short_number_of.ensures)) c.loop-item.invariant)

pub loop-item-preserved : goal.loop-item-preserved
loop-item-preserved c =
    rw c.in_ok-push.ensures.items (goes_on view (number_of c.args.field 1 65535) c.loop-item.numbers.items c.args.items.now
    c.loop-item.item-index _ c.in_ok-short_number_of.field-0 (each (number_of c.args.field 1 65535) (map view c.args.items.now))
    c.loop-item-test.true (sym (rw c.item-item.is at c.in_ok-short_number_of.ensures)) c.loop-item.invariant)

pub returns : goal.returns
returns c =
    is_done view (number_of c.args.field 1 65535) c.loop-item.numbers.items c.args.items.now c.loop-item.item-index
    (each (number_of c.args.field 1 65535) (map view c.args.items.now)) c.loop-item-test.false c.loop-item.invariant
