use Rattle.std.proofs.Common.{◌≡◌, ◌++◌, filter, drop}
use Rattle.cast_types.specs.Names.{proc_cmp}
use Rattle.cast_types.specs.Sets.{with_items}
use Rattle.cast_view.specs.Home.{expected_members, stays}
use Rattle.cast_view.proofs.home.HomeSide.expected_members.Given as goal

-- the processes so far with those that are left are all
abbrev pub invariant-loop-member : goal.invariant-loop-member
invariant-loop-member l =
    with_items proc_cmp l.procs (filter (stays l.self) (drop l.member-index l.member-items) ++ l.self.joins) ≡ expected_members l.self

abbrev pub invariant-loop-process : goal.invariant-loop-process
invariant-loop-process l = with_items proc_cmp l.procs (drop l.process-index l.process-items) ≡ expected_members l.self
