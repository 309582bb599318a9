use Rattle.std.proofs.Common.{rules}
use Rattle.cast_script.specs.WordReadings.{checked_groups, groups_of}
use Rattle.cast_script.proofs.domain.groups_word.Goals as goal

pub returns-then-is_empty : goal.returns-then-is_empty
unfolding groups_of checked_groups
returns-then-is_empty c = search rules
