use Rattle.std.proofs.Common.{◌≡◌, drop, map}
use Rattle.toml.specs.View.{table_view}
use Rattle.cast_script.specs.WordReadings.{each}
use Rattle.cast_script.proofs.Each.{with_front}
use Rattle.cast_config.specs.Entries.{domain_of}
use Rattle.cast_config.proofs.domains.all_domains.Given as goal

-- what was read, and what is still read
abbrev pub invariant-loop-table : goal.invariant-loop-table
invariant-loop-table l =
    with_front l.domains (each domain_of (map (λ t. table_view t.now) (drop l.table-index l.tables)))
    ≡ each domain_of (map (λ t. table_view t.now) l.tables)
