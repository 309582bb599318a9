use Rattle.std.proofs.Common.{◌≡◌, take}
use Rattle.cast_domain.proofs.record.copy_groups.Given as goal

-- those so far
abbrev pub invariant-loop-group : goal.invariant-loop-group
invariant-loop-group l = l.copied.items ≡ take l.group-index l.groups
