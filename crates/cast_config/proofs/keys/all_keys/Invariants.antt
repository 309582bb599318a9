use Rattle.std.proofs.Common.{◌≡◌, drop, map}
use Rattle.toml.specs.View.{table_view}
use Rattle.cast_script.specs.WordReadings.{each}
use Rattle.cast_script.proofs.Each.{with_front}
use Rattle.cast_config.specs.Keys.{key_of}
use Rattle.cast_config.proofs.keys.all_keys.Given as goal

-- what was read, and what is still read
abbrev pub invariant-loop-table : goal.invariant-loop-table
invariant-loop-table l =
    with_front l.keys (each key_of (map (λ t. table_view t.now) (drop l.table-index l.tables)))
    ≡ each key_of (map (λ t. table_view t.now) l.tables)
