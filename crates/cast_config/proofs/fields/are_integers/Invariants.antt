use Rattle.std.proofs.Common.{◌≡◌, drop, map}
use Rattle.toml.specs.View.{view}
use Rattle.cast_config.specs.Fields.{all_pass, integer_of}
use Rattle.cast_config.proofs.fields.are_integers.Given as goal

-- what is still tested decides
abbrev pub invariant-loop-item : goal.invariant-loop-item
invariant-loop-item l =
    all_pass (integer_of l.field) (map view (drop l.item-index l.items)) ≡ all_pass (integer_of l.field) (map view l.items)
