use Rattle.std.proofs.Common.{◌∷◌, [], map}
use Rattle.std.proofs.lemmas.List.{map-append}
use Rattle.std.proofs.lemmas.Result.{err_from_is_err_and}
use Rattle.toml.specs.View.{table_view, view}
use Rattle.cast_script.specs.WordReadings.{each}
use Rattle.cast_script.proofs.Each.{ends, goes_on, is_done}
use Rattle.cast_config.specs.Fields.{table_of}
use Rattle.cast_config.proofs.setup.all_tables.Goals as goal

pub returns-in_err-table_of : goal.returns-in_err-table_of
returns-in_err-table_of c =
    let p = err_from_is_err_and c.from_residual.result c.from_residual.ensures.1 in
    rw (p.1, p.2) (λ memory. ends view (table_of c.args.field) (map (λ t. table_view t.now) c.loop-item.tables.items)
    c.args.items.now c.loop-item.item-index _ c.in_err-table_of.field-0.0 (each (table_of c.args.field) (map view c.args.items.now))
    c.loop-item-test.true (rw c.item-item.is at c.in_err-table_of.ensures) c.loop-item.invariant)

pub loop-item-preserved : goal.loop-item-preserved
loop-item-preserved c =
    rw (c.in_ok-push.ensures.items, map-append (λ t. table_view t.now) c.loop-item.tables.items (c.in_ok-table_of.field-0 ∷ []))
    (goes_on view (table_of c.args.field) (map (λ t. table_view t.now) c.loop-item.tables.items) c.args.items.now c.loop-item.item-index _
    (table_view c.in_ok-table_of.field-0.now) (each (table_of c.args.field) (map view c.args.items.now))
    c.loop-item-test.true (rw c.item-item.is at c.in_ok-table_of.ensures) c.loop-item.invariant)

pub returns : goal.returns
returns c =
    is_done view (table_of c.args.field) (map (λ t. table_view t.now) c.loop-item.tables.items) c.args.items.now c.loop-item.item-index
    (each (table_of c.args.field) (map view c.args.items.now)) c.loop-item-test.false c.loop-item.invariant
