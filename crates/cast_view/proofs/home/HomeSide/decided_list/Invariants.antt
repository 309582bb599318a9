use Rattle.std.proofs.Common.{◌≡◌, ◌++◌, filter, drop, not}
use Rattle.cast_types.specs.Names.{proc_cmp}
use Rattle.cast_types.specs.Sets.{with_items}
use Rattle.cast_view.specs.Home.{decided_list, stays, is_suspected}
use Rattle.cast_view.proofs.home.HomeSide.decided_list.Given as goal

-- the processes so far with those that are left are all
abbrev pub invariant-loop-member : goal.invariant-loop-member
invariant-loop-member l =
    with_items proc_cmp l.procs
    (filter (stays l.self) (drop l.member-index l.member-items) ++ filter (λ p. not (is_suspected l.self p.site)) l.self.joins)
    ≡ decided_list l.self

abbrev pub invariant-loop-process : goal.invariant-loop-process
invariant-loop-process l =
    with_items proc_cmp l.procs (filter (λ p. not (is_suspected l.self p.site)) (drop l.process-index l.process-items))
    ≡ decided_list l.self
