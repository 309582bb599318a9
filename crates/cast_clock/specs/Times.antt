-- Vector times with a view beside the counts of each group: their order and their join.
use Rattle.std.specs.Prelude.{◌≡◌, ℕ, ◌+◌, max, Bool, ◌&&◌, ◌||◌, ◌==◌, nat_lt}
use Rattle.std.specs.Prelude.{nat_le, ◌<◌, ◌≤◌, ◌⊎◌, [], ◌∷◌, length, unwrap_or}
use Rattle.std.specs.List.{list_all}
use Rattle.std.specs.FinMap.Entries.{find, put, is_sorted}
use Rattle.std.specs.Ordering.{nat_cmp}
use Rattle.cast_types.specs.declared.names.GroupNo.{GroupNo}
use Rattle.cast_types.specs.declared.names.Proc.{Proc}
use Rattle.cast_types.specs.declared.clock.Clock.{Clock}
use Rattle.cast_types.specs.Names.{group_cmp, proc_cmp}
use Rattle.cast_types.specs.Sets.{at_order}
use Rattle.cast_types.specs.Counts.{CountList, count_of, is_counts}
use Rattle.cast_types.specs.Stamps.{ClockList}

-- the time of one that has heard of no view. A group that is absent from a time has view 0 and no
-- counts
abbrev pub no_time : ClockList
no_time = []

-- the clock at the start of a view
abbrev pub first_clock : ℕ → Clock
first_clock view = record { view = view; counts = [] }

abbrev pub clock_of : ClockList → GroupNo → Clock
clock_of t g = unwrap_or (find group_cmp g t) (first_clock 0)

abbrev pub view_of : ClockList → GroupNo → ℕ
view_of t g = (clock_of t g).view

-- p's count in g, in the view that the time has of g
abbrev pub count_in : ClockList → GroupNo → Proc → ℕ
count_in t g p = count_of (clock_of t g).counts p

-- each count is at most the other's
abbrev pub counts_at_most : CountList → CountList → Bool
counts_at_most c d = list_all (λ e. nat_le e.1 (count_of d e.0)) c

-- an older view, or the same with counts at most the other's
abbrev pub clock_at_most : Clock → Clock → Bool
clock_at_most a b = nat_lt a.view b.view || ((a.view == b.view) && counts_at_most a.counts b.counts)

abbrev pub at_most : ClockList → ClockList → Bool
at_most s t = list_all (λ e. clock_at_most e.1 (clock_of t e.0)) s

-- the order of clocks as a relation: an older view, or the same and no count is greater
abbrev pub IsAtMost : Clock → Clock → Type 0
IsAtMost a b =
    (a.view < b.view)
    ⊎ ((a.view ≡ b.view) × ((p : Proc) → count_of a.counts p ≤ count_of b.counts p))

-- the maximum of each count
abbrev pub join_counts : CountList → CountList → CountList
join_counts c [] = c
join_counts c (e ∷ d) = join_counts (put proc_cmp e.0 (max (count_of c e.0) e.1) c) d

-- the clock of the greater view, or of equal views the maximum of each count
abbrev pub join_clocks : Clock → Clock → Clock
join_clocks a b =
    at_order (nat_cmp a.view b.view)
    b (record { view = a.view; counts = join_counts a.counts b.counts }) a

abbrev pub join : ClockList → ClockList → ClockList
join s [] = s
join s (e ∷ t) = join (put group_cmp e.0 (join_clocks (clock_of s e.0) e.1) s) t

-- a clock has at most 64 counts, as many as a view has members
abbrev pub clock_has_room : Clock → Bool
clock_has_room c = nat_le (length c.counts) 64

-- each clock does
abbrev pub has_room : ClockList → Bool
has_room t = list_all (λ e. clock_has_room e.1) t

-- clocks in rising order of their groups, each with at most 64 counts of at least 1 in rising order
-- of their processes
abbrev pub is_time : ClockList → Bool
is_time t = is_sorted group_cmp t && list_all (λ e. is_counts e.1.counts) t

-- the time with p's count in g raised by one
abbrev pub with_bump : ClockList → GroupNo → Proc → ClockList
with_bump t g p =
    put group_cmp g (record {
      view = view_of t g;
      counts = put proc_cmp p (count_in t g p + 1)
          (clock_of t g).counts;
    }) t

-- the time of one that enters a view
abbrev pub entering : ClockList → GroupNo → ℕ → ClockList
entering t g view = put group_cmp g (first_clock view) t
