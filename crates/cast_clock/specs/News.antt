-- What of a time is new to another: the joined clocks of the groups whose clocks a join changes.
use Rattle.std.specs.Prelude.{◌≡◌, Bool, true, false, ◌&&◌, ◌||◌, ◌==◌, nat_lt, nat_le, Contains}
use Rattle.std.specs.Prelude.{is_some, if◌then◌else◌, Option, Some, None, List, [], ◌∷◌}
use Rattle.std.specs.List.{list_all}
use Rattle.std.specs.FinMap.Entries.{find, put}
use Rattle.cast_types.specs.declared.names.GroupNo.{GroupNo}
use Rattle.cast_types.specs.declared.clock.Clock.{Clock}
use Rattle.cast_types.specs.Names.{proc_cmp, group_cmp}
use Rattle.cast_types.specs.Counts.{CountList, count_of}
use Rattle.cast_types.specs.Stamps.{ClockList}
use Rattle.cast_clock.specs.Times.{clock_of, clock_at_most, join_clocks}

-- each of the second counts is kept among the first, and at most that
abbrev pub covers : CountList → CountList → Bool
covers c d = list_all (λ e. is_some (find proc_cmp e.0 c) && nat_le e.1 (count_of c e.0)) d

-- a later view, or the same with counts that cover the other's: a join with that changes nothing
abbrev pub outranks : Clock → Clock → Bool
outranks a b = nat_lt b.view a.view || ((a.view == b.view) && covers a.counts b.counts)

-- a clock is kept that outranks the other
abbrev pub is_known : Option Clock → Clock → Bool
is_known None b = false
is_known (Some a) b = outranks a b

-- the joined clocks of the groups whose clock is not known
abbrev pub news : ClockList → ClockList → ClockList
news s [] = []
news s (e ∷ t) =
    if is_known (find group_cmp e.0 s) e.1 then news s t
    else (e.0, join_clocks (clock_of s e.0) e.1) ∷ news s t

-- a time with these clocks put in, one after the other
abbrev pub put_all : ClockList → ClockList → ClockList
put_all [] s = s
put_all (e ∷ es) s = put_all es (put group_cmp e.0 e.1 s)

-- the stamp's clocks of these groups are at most the time's
abbrev pub AreKnown : ClockList → ClockList → List GroupNo → Type 0
AreKnown time stamp known =
    (e : GroupNo × Clock) → Contains stamp e → Contains known e.0 →
    clock_at_most e.1 (clock_of time e.0) ≡ true
