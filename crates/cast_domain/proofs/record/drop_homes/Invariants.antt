use Rattle.std.proofs.Common.{◌≡◌, ◌++◌, take, drop, map}
use Rattle.cast_domain.specs.PartCalls.{with_first_home}
use Rattle.cast_domain.proofs.record.drop_homes.Given as goal

-- the homes of the groups that were passed keep nothing, and those of the others will
abbrev pub invariant-loop-group : goal.invariant-loop-group
invariant-loop-group l =
    take l.group-index l.group-items ++ map with_first_home (drop l.group-index l.group-items)
    ≡ map with_first_home l.fn.groups.items
