use Rattle.std.proofs.Common.{◌≡◌, drop, map}
use Rattle.toml.specs.View.{table_view}
use Rattle.cast_script.specs.WordReadings.{each}
use Rattle.cast_script.proofs.Each.{with_front}
use Rattle.cast_config.specs.Entries.{site_of}
use Rattle.cast_config.proofs.sites.all_sites.Given as goal

-- what was read, and what is still read
abbrev pub invariant-loop-table : goal.invariant-loop-table
invariant-loop-table l =
    with_front l.sites (each site_of (map (λ t. table_view t.now) (drop l.table-index l.tables)))
    ≡ each site_of (map (λ t. table_view t.now) l.tables)
