use Rattle.std.proofs.Common.{refl, sym}
use Rattle.cast_config.specs.Fields.{items_of_array}
use Rattle.cast_config.proofs.Lists.{list_of-items_view}
use Rattle.cast_config.proofs.fields.items_of.Goals as goal

pub returns-in-Some : goal.returns-in-Some
unfolding items_of_array
returns-in-Some c =
    rw (sym c.in-Some.ensures, list_of-items_view c.in-Some.items.now.items, c.as_slice.ensures.value) refl
