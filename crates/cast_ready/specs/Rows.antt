-- What the queue keeps of a process, counts in place of ids, and the tests over it.
use Rattle.std.specs.Prelude.{◌≡◌, ℕ, ◌≤◌, ◌-◌, min, Bool, true, not, ◌&&◌, ◌||◌, ◌==◌, nat_lt}
use Rattle.std.specs.Prelude.{nat_le, if◌then◌else◌, List, [], ◌∷◌, length, Contains, Option}
use Rattle.std.specs.Prelude.{unwrap_or}
use Rattle.std.specs.List.{list_all, list_any, position}
use Rattle.std.specs.FinMap.Entries.{find, put}
use Rattle.cast_types.specs.declared.names.GroupNo.{GroupNo}
use Rattle.cast_types.specs.declared.names.Proc.{Proc}
use Rattle.cast_types.specs.declared.names.Uid.{Uid}
use Rattle.cast_types.specs.declared.clock.Clock.{Clock}
use Rattle.cast_types.specs.declared.names.Standing.{Standing}
use Rattle.cast_types.specs.declared.names.Standing.TheVariants.{Outside, Joining, Member}
use Rattle.cast_types.specs.Names.{Entry, group_cmp, proc_eq, uid_eq, uid_in, entry_of}
use Rattle.cast_types.specs.Stamps.{ClockList}
use Rattle.cast_clock.specs.Times.{clock_of, view_of, clock_at_most, join, has_room}
use Rattle.cast_ready.specs.declared.gate.Gate.{Gate}
use Rattle.cast_ready.specs.Ready.{open_gate, is_open_to, is_member, has_turn, turn_in}
use Rattle.cast_types.specs.declared.source.Source.{Source}
use Rattle.cast_types.specs.Sources.{source, source_cmp, but_ended}
use Rattle.cast_ready.specs.DeliveredCounts.{count_at}
use Rattle.cast_ready.specs.declared.turn.Turn.{Turn}
use Rattle.cast_ready.specs.declared.offered.Offered.{Offered}
use Rattle.cast_ready.specs.declared.row.Row.{Row}
use Rattle.cast_ready.specs.declared.row.ProcessUpdate.{ProcessUpdate}
use Rattle.cast_ready.specs.declared.row.ProcessUpdate.TheVariants as fact

-- the gate of a group: number 0 and not frozen where nothing was told of it
abbrev pub gate_in : List (GroupNo × Gate) → GroupNo → Gate
gate_in gates g = unwrap_or (find group_cmp g gates) (open_gate 0)

-- a group's clock in a time, none where the time has none of the group
abbrev pub IsClockIn : ClockList → GroupNo → Option Clock → Type 0
IsClockIn times g clock = clock ≡ find group_cmp g times

abbrev pub standing_in : Row → GroupNo → Standing
standing_in row g = unwrap_or (find group_cmp g row.standings) Outside

-- how many messages of a process the row's process has delivered in a view of a group
abbrev pub done_in : Row → GroupNo → ℕ → Proc → ℕ
done_in row g view p = count_at row.done (source g view p)

-- how many messages of an entry must be delivered before a message: its own is left out
abbrev pub needed_count : Uid → GroupNo → ℕ → Entry → ℕ
needed_count id g view e = if uid_eq (uid_in g view e) id then e.1 - 1 else e.1

abbrev pub has_past : Row → Uid → GroupNo → ℕ → List Entry → Bool
has_past row id g view counts =
    list_all (λ e. nat_le (needed_count id g view e) (done_in row g view e.0)) counts

abbrev pub row_allows : Row → ℕ → Uid → ClockList → GroupNo → Standing → Bool
row_allows row number id times g Outside = true
row_allows row number id times g (Joining request heard) = nat_le (view_of times g) heard
row_allows row number id times g Member =
    nat_lt (view_of times g) number
    || ((view_of times g == number)
    && has_past row id g (view_of times g) (clock_of times g).counts)

abbrev pub all_allow : List (GroupNo × Gate) → Row → Uid → ClockList → Bool
all_allow gates row id times =
    list_all (λ s. row_allows row (gate_in gates s.0).number id times s.0 s.1) row.standings

-- causally ready, by what the queue keeps
abbrev pub is_causally_ready_row : List (GroupNo × Gate) → Row → Uid → ClockList → Bool
is_causally_ready_row gates row id times =
    is_member (standing_in row id.group)
    && ((id.view == (gate_in gates id.group).number)
    && (is_open_to (gate_in gates id.group) (entry_of id)
    && (nat_lt (done_in row id.group id.view id.proc) id.count
    && (all_allow gates row id times
    && has_room (join row.time times)))))

-- the row has delivered all that a clock of a group counts
abbrev pub HasCounted : Row → GroupNo → Clock → Type 0
HasCounted row g clock = (e : Entry) → Contains clock.counts e → e.1 ≤ done_in row g clock.view e.0

-- the stamp's clock of a group is low for a row: the row has delivered all that it counts, and has
-- it in its time
pub record IsLow (row : Row) (g : GroupNo) (clock : Clock) : Type 0 where
  pub delivered : HasCounted row g clock
  pub timed : clock_at_most clock (clock_of row.time g) ≡ true

-- of these groups a stamp's clocks are low for a row, where the row is a member
abbrev pub AreLow : Row → ClockList → List GroupNo → Type 0
AreLow row times low =
    (e : GroupNo × Clock) → Contains times e → Contains low e.0 →
    is_member (standing_in row e.0) ≡ true → IsLow row e.0 e.1

-- ready, by what the queue keeps and these turns of groups
abbrev pub is_ready_row : List (GroupNo × Turn) → List (GroupNo × Gate) → Row → Offered → Bool
is_ready_row turns gates row o =
    is_causally_ready_row gates row o.id o.times
    && (not o.atomic || has_turn (turn_in turns o.id.group) (entry_of o.id))

-- the process has delivered it, by what the queue keeps
abbrev pub has_delivered_in : Row → Uid → Bool
has_delivered_in row u = nat_lt 0 u.count && nat_le u.count (done_in row u.group u.view u.proc)

-- how many of these ids of a view of a group the process has delivered before the first that it has
-- not
abbrev pub passed_by : Row → GroupNo → ℕ → List Entry → ℕ
passed_by row group view ids =
    unwrap_or (position (λ e. not (has_delivered_in row (uid_in group view e))) ids) (length ids)

-- the process is a member of the message's group and has not delivered it, by what the queue keeps
abbrev pub awaits_row : Row → Uid → Bool
awaits_row row id =
    is_member (standing_in row id.group) && nat_lt (done_in row id.group id.view id.proc) id.count

-- the row after a delivery. A join without room changes no time; no ready message has one
abbrev pub delivered_row : Uid → ClockList → Row → Row
delivered_row id times row =
    record row {
      done = put source_cmp (source id.group id.view id.proc) id.count row.done;
      time = if has_room (join row.time times) then join row.time times else row.time;
    }

abbrev pub with_standing : GroupNo → Standing → Row → Row
with_standing g standing row = record row { standings = put group_cmp g standing row.standings }

abbrev pub with_time : ClockList → Row → Row
with_time time row = record row { time = time }

-- the row once the group's views below a number have ended: of what the process delivered of these
-- it has nothing more
abbrev pub ended_row : GroupNo → ℕ → Row → Row
ended_row g number row = record row { done = but_ended g number row.done }

-- the row after a fact
abbrev pub told_row : ProcessUpdate → Row → Row
told_row (fact.Standing g standing) row = with_standing g standing row
told_row (fact.Time time) row = with_time time row

abbrev pub new_row : Proc → Row
new_row p = record { process = p; standings = []; time = []; done = [] }

-- the lesser of a count and of how many messages of a process in a view of a group the row's
-- process has delivered, where that is a member of the group
abbrev pub lesser_by : GroupNo → ℕ → Proc → ℕ → Row → ℕ
lesser_by group view p least row =
    if is_member (standing_in row group) then min least (done_in row group view p) else least

-- the row awaits the message of an id, whose view is the one that stands
abbrev pub awaits_now : List (GroupNo × Gate) → Row → Uid → Bool
awaits_now gates row u = awaits_row row u && (u.view == (gate_in gates u.group).number)

-- a message is to be delivered after that of an id: its time has the view of the id's group, and
-- counts so many of the process
abbrev pub is_after : Offered → Uid → Bool
is_after o u =
    (view_of o.times u.group == u.view)
    && list_any (λ e. proc_eq e.0 u.proc && nat_le u.count (needed_count o.id u.group u.view e))
    (clock_of o.times u.group).counts

-- and the row awaits that still
abbrev pub holds_back : List (GroupNo × Gate) → Row → Offered → Uid → Bool
holds_back gates row o u = is_after o u && awaits_now gates row u

-- the clock that counts so many messages of a source alone
abbrev pub clock_of_one : Source → ℕ → Clock
clock_of_one s n = record { view = s.view; counts = (s.process, n) ∷ [] }

-- the row's process is no member of a source's group, or it has delivered so many of the source's
-- messages and counts them in its time
abbrev pub has_passed_row : Row → Source → ℕ → Bool
has_passed_row row s n =
    not (is_member (standing_in row s.group))
    || (nat_le n (count_at row.done s)
    && clock_at_most (clock_of_one s n) (clock_of row.time s.group))
