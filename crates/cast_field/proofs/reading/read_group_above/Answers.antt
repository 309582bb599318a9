use Rattle.std.proofs.Common.{rules}
use Rattle.cast_field.specs.Reading.{group_above, group_at, number_at, within_range, above}
use Rattle.cast_field.proofs.reading.read_group_above.Goals as goal

pub returns-in_default : goal.returns-in_default
unfolding group_above group_at number_at within_range above
returns-in_default c = search rules
