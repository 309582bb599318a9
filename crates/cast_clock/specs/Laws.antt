-- What the join, the order, a raised count and a view that begins mean.
-- They mean it group by group and process by process.
use Rattle.std.specs.Prelude.{◌≡◌, ◌≢◌, ℕ, ◌+◌, max, Bool, ◌&&◌, IsTrue, ◌↔◌, ◌⊎◌}
use Rattle.std.specs.List.{list_all}
use Rattle.std.specs.FinMap.Entries.{is_sorted}
use Rattle.cast_types.specs.declared.names.GroupNo.{GroupNo}
use Rattle.cast_types.specs.declared.names.Proc.{Proc}
use Rattle.cast_types.specs.Names.{group_cmp, proc_cmp}
use Rattle.cast_types.specs.Counts.{CountList, count_of}
use Rattle.cast_types.specs.Stamps.{ClockList}
use Rattle.cast_clock.specs.Times.{first_clock, clock_of, view_of, count_in}
use Rattle.cast_clock.specs.Times.{at_most, IsAtMost, join_counts, join_clocks}
use Rattle.cast_clock.specs.Times.{join, has_room, is_time, with_bump, entering}

-- groups in rising order, and the processes of each
abbrev pub is_in_order : ClockList → Bool
is_in_order t = is_sorted group_cmp t && list_all (λ e. is_sorted proc_cmp e.1.counts) t

-- each count of a join is the greater of the two
abbrev pub CountsJoin : Type 0
CountsJoin = (c d : CountList) (p : Proc) → IsTrue (is_sorted proc_cmp d) →
    count_of (join_counts c d) p ≡ max (count_of c p) (count_of d p)

-- each clock of a join is the join of the two
abbrev pub ClocksJoin : Type 0
ClocksJoin = (s t : ClockList) (g : GroupNo) → IsTrue (is_sorted group_cmp t) →
    clock_of (join s t) g ≡ join_clocks (clock_of s g) (clock_of t g)

-- a time is at most another exactly if each of its clocks is
abbrev pub OrderIsPointwise : Type 0
OrderIsPointwise = (s t : ClockList) → IsTrue (is_in_order s) →
    IsTrue (at_most s t) ↔ ((g : GroupNo) → IsAtMost (clock_of s g) (clock_of t g))

abbrev pub OrderIsReflexive : Type 0
OrderIsReflexive = (s : ClockList) → IsTrue (is_in_order s) → IsTrue (at_most s s)

abbrev pub OrderIsTransitive : Type 0
OrderIsTransitive = (s t u : ClockList) → IsTrue (is_in_order s) →
    IsTrue (at_most s t) → IsTrue (at_most t u) → IsTrue (at_most s u)

-- both times are at most their join
abbrev pub JoinIsAbove : Type 0
JoinIsAbove = (s t : ClockList) → IsTrue (is_in_order s) → IsTrue (is_in_order t) →
    IsTrue (at_most s (join s t)) × IsTrue (at_most t (join s t))

-- and the join is at most each time that both are at most
abbrev pub JoinIsLeast : Type 0
JoinIsLeast = (s t u : ClockList) → IsTrue (is_in_order s) → IsTrue (is_in_order t) →
    IsTrue (at_most s u) → IsTrue (at_most t u) → IsTrue (at_most (join s t) u)

-- one count is one more
abbrev pub BumpRaises : Type 0
BumpRaises =
    (t : ClockList) (g : GroupNo) (p : Proc) → count_in (with_bump t g p) g p ≡ count_in t g p + 1

-- and no other count changes, and no view
abbrev pub BumpLeavesCounts : Type 0
BumpLeavesCounts = (t : ClockList) (g h : GroupNo) (p q : Proc) → (h ≢ g) ⊎ (q ≢ p) →
    count_in (with_bump t g p) h q ≡ count_in t h q

abbrev pub BumpLeavesViews : Type 0
BumpLeavesViews =
    (t : ClockList) (g h : GroupNo) (p : Proc) → view_of (with_bump t g p) h ≡ view_of t h

-- the group is at the start of the view
abbrev pub EnterBegins : Type 0
EnterBegins =
    (t : ClockList) (g : GroupNo) (view : ℕ) → clock_of (entering t g view) g ≡ first_clock view

-- and no other group changes
abbrev pub EnterLeaves : Type 0
EnterLeaves =
    (t : ClockList) (g h : GroupNo) (view : ℕ) → h ≢ g →
    clock_of (entering t g view) h ≡ clock_of t h

-- what is made of times is a time
abbrev pub JoinIsTime : Type 0
JoinIsTime =
    (s t : ClockList) → IsTrue (is_time s) → IsTrue (is_time t) → IsTrue (has_room (join s t)) →
    IsTrue (is_time (join s t))

abbrev pub BumpIsTime : Type 0
BumpIsTime =
    (t : ClockList) (g : GroupNo) (p : Proc) → IsTrue (is_time t) →
    IsTrue (has_room (with_bump t g p)) →
    IsTrue (is_time (with_bump t g p))

abbrev pub EnterIsTime : Type 0
EnterIsTime =
    (t : ClockList) (g : GroupNo) (view : ℕ) → IsTrue (is_time t) →
    IsTrue (is_time (entering t g view))
