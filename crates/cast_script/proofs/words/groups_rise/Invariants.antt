use Rattle.std.proofs.Common.{◌≡◌, drop}
use Rattle.cast_script.specs.Words.{rises_from}
use Rattle.cast_script.proofs.words.groups_rise.Given as goal

abbrev pub invariant-loop-group : goal.invariant-loop-group
invariant-loop-group l = rises_from (λ x. x.0) 0 l.groups ≡ rises_from (λ x. x.0) l.last (drop l.group-index l.groups)
