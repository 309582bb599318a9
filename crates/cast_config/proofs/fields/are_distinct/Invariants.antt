use Rattle.std.proofs.Common.{◌≡◌, drop}
use Rattle.cast_config.specs.Documents.{are_distinct}
use Rattle.cast_config.proofs.fields.are_distinct.Given as goal

-- what is still looked at decides
abbrev pub invariant-loop-index : goal.invariant-loop-index
invariant-loop-index l = are_distinct (drop l.index l.numbers) ≡ are_distinct l.numbers
