use Rattle.std.proofs.Common.{◌≡◌, drop}
use Rattle.cast_domain.specs.Trims.{is_kept_among}
use Rattle.cast_commands.proofs.trim.is_kept_among.Given as goal

-- it is none of those so far
abbrev pub invariant-loop-position : goal.invariant-loop-position
invariant-loop-position l = is_kept_among (drop l.position l.kept) l.id ≡ is_kept_among l.kept l.id
