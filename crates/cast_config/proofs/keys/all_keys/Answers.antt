use Rattle.std.proofs.Common.{map}
use Rattle.std.proofs.lemmas.Result.{err_from_is_err_and}
use Rattle.toml.specs.View.{table_view}
use Rattle.cast_script.specs.WordReadings.{each}
use Rattle.cast_script.proofs.Each.{ends, goes_on, is_done}
use Rattle.cast_config.specs.Keys.{key_of}
use Rattle.cast_config.proofs.keys.all_keys.Goals as goal

pub returns-in_err-key_of : goal.returns-in_err-key_of
returns-in_err-key_of c =
    let p = err_from_is_err_and c.from_residual.result c.from_residual.ensures.1 in
    rw (p.1, p.2) (λ memory. ends (λ t. table_view t.now) key_of c.loop-table.keys c.args.tables.now c.loop-table.table-index _
    c.in_err-key_of.field-0.0 (each key_of (map (λ t. table_view t.now) c.args.tables.now))
    c.loop-table-test.true ((rw c.table-item.is at c.in_err-key_of.ensures) memory) c.loop-table.invariant)

pub loop-table-preserved : goal.loop-table-preserved
loop-table-preserved c =
    rw c.in_ok-push.ensures.ok (goes_on (λ t. table_view t.now) key_of c.loop-table.keys c.args.tables.now c.loop-table.table-index _
    c.in_ok-key_of.field-0 (each key_of (map (λ t. table_view t.now) c.args.tables.now))
    c.loop-table-test.true (rw c.table-item.is at c.in_ok-key_of.ensures) c.loop-table.invariant)

pub returns : goal.returns
returns c =
    is_done (λ t. table_view t.now) key_of c.loop-table.keys c.args.tables.now c.loop-table.table-index
    (each key_of (map (λ t. table_view t.now) c.args.tables.now)) c.loop-table-test.false c.loop-table.invariant
