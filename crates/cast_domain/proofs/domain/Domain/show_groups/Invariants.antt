use Rattle.std.proofs.Common.{◌≡◌, map, take}
use Rattle.cast_domain.specs.Shows.{group_shown}
use Rattle.cast_domain.proofs.domain.Domain.show_groups.Given as goal

-- what is shown of the groups so far
abbrev pub invariant-loop-group : goal.invariant-loop-group
invariant-loop-group l = l.groups ≡ map (λ x. group_shown x.name x.here) (take l.group-index l.self.groups.items)
