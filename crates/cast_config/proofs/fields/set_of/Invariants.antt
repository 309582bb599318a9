use Rattle.std.proofs.Common.{◌≡◌, drop}
use Rattle.std.specs.Ordering.{nat_cmp}
use Rattle.cast_types.specs.Sets.{set_of, with_items}
use Rattle.cast_config.proofs.fields.set_of.Given as goal

-- what is in the set, and what still comes in
abbrev pub invariant-loop-number : goal.invariant-loop-number
invariant-loop-number l =
    with_items nat_cmp l.set.items (drop l.number-index l.numbers) ≡ set_of nat_cmp l.numbers
