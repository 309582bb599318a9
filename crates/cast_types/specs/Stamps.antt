-- The time that a message bears: a clock for each group, in order of groups.
use Rattle.std.specs.Prelude.{Bool, ◌&&◌, nat_lt, nat_le, List, length}
use Rattle.std.specs.List.{list_all}
use Rattle.std.specs.FinMap.Entries.{is_sorted}
use Rattle.cast_types.specs.declared.names.GroupNo.{GroupNo}
use Rattle.cast_types.specs.declared.clock.Clock.{Clock}
use Rattle.cast_types.specs.Names.{group_cmp}

abbrev pub ClockList : Type 0
ClockList = List (GroupNo × Clock)

-- 1 to 32 clocks of views from 1 on, in rising order of their groups
abbrev pub is_stamp : ClockList → Bool
is_stamp t =
    is_sorted group_cmp t
    && (nat_lt 0 (length t)
    && (nat_le (length t) 32
    && list_all (λ e. nat_lt 0 e.1.view) t))
