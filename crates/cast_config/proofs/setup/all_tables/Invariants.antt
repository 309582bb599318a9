use Rattle.std.proofs.Common.{◌≡◌, drop, map}
use Rattle.toml.specs.View.{table_view, view}
use Rattle.cast_script.specs.WordReadings.{each}
use Rattle.cast_script.proofs.Each.{with_front}
use Rattle.cast_config.specs.Fields.{table_of}
use Rattle.cast_config.proofs.setup.all_tables.Given as goal

-- what was read, and what is still read
abbrev pub invariant-loop-item : goal.invariant-loop-item
invariant-loop-item l =
    with_front (map (λ t. table_view t.now) l.tables.items) (each (table_of l.field) (map view (drop l.item-index l.items)))
    ≡ each (table_of l.field) (map view l.items)
