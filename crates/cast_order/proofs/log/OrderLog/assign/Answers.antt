use Rattle.std.proofs.Common.{◌+◌, ◌<◌, List, length, refl, ◌∙◌, rules, arith}
use Rattle.cast_types.specs.declared.limits.TheConstants.{MAX_POSITION}
use Rattle.cast_types.specs.Names.{Entry}
use Rattle.cast_order.proofs.Steps.{may_set}
use Rattle.cast_order.proofs.log.OrderLog.assign.Goals as goal

pub from_parts-requires : goal.from_parts-requires
from_parts-requires c =
    let waiting : List Entry = c.ids_to_list-waiting.result.now in
    let some : 0 < length waiting = search rules in
    let first = c.length.ensures in
    let again = c.length-2.ensures in
    let room : c.length-2.result < MAX_POSITION = omega (arith, first, again) in
    may_set waiting c.length-2.result (c.length-2.result + 1) c.in_ok-ids.ids.items some room refl
    (c.in_ok-ids.ensures.items ∙ c.first_ids.ensures)
