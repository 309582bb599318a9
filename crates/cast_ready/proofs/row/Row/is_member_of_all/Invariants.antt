use Rattle.std.proofs.Common.{◌≡◌, drop}
use Rattle.std.specs.List.{list_all}
use Rattle.cast_ready.specs.Ready.{is_member}
use Rattle.cast_ready.specs.Rows.{standing_in}
use Rattle.cast_ready.proofs.row.Row.is_member_of_all.Given as goal

-- what is left of the groups decides
abbrev pub invariant-loop-group : goal.invariant-loop-group
invariant-loop-group l =
    list_all (λ g. is_member (standing_in l.self g)) (drop l.group-index l.groups)
    ≡ list_all (λ g. is_member (standing_in l.self g)) l.groups
