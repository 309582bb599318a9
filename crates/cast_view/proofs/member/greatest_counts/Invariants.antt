use Rattle.std.proofs.Common.{◌≡◌, ◌++◌, drop}
use Rattle.cast_view.specs.MemberSide.{counts_by, greatest_of}
use Rattle.cast_view.proofs.member.greatest_counts.Given as goal

-- the counts so far with those of the members that are left are all
abbrev pub invariant-loop-member : goal.invariant-loop-member
invariant-loop-member l =
    l.entries.items ++ counts_by (greatest_of l.had) (drop l.member-index l.members) ≡ counts_by (greatest_of l.had) l.members
