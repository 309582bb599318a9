use Rattle.std.proofs.Common.{◌≡◌, drop, map}
use Rattle.toml.specs.View.{view}
use Rattle.cast_script.specs.WordReadings.{each}
use Rattle.cast_script.proofs.Each.{with_front}
use Rattle.cast_config.specs.Fields.{number_of}
use Rattle.cast_config.proofs.fields.all_within.Given as goal

-- what was read, and what is still read
abbrev pub invariant-loop-item : goal.invariant-loop-item
invariant-loop-item l =
    with_front l.numbers.items (each (number_of l.field 1 65535) (map view (drop l.item-index l.items)))
    ≡ each (number_of l.field 1 65535) (map view l.items)
