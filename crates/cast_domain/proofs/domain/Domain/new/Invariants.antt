use Rattle.std.proofs.Common.{◌≡◌, map, take}
use Rattle.cast_domain.specs.Fits.{record_for}
use Rattle.cast_rules.specs.State.{opening}
use Rattle.cast_domain.proofs.domain.Domain.new.Given as goal

-- the records of the groups so far
abbrev pub invariant-loop-group : goal.invariant-loop-group
invariant-loop-group l = l.groups.items ≡ map (record_for (opening l.fn.site l.fn.config)) (take l.group-index l.group-items)
