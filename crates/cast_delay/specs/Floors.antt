-- The floor: what all members here have delivered, and which groups of a time are within it.
use Rattle.std.specs.Prelude.{◌≡◌, ◌<◌, ◌≤◌, ℕ, Bool, true, false, not, ◌||◌}
use Rattle.std.specs.Prelude.{if◌then◌else◌, List, [], length, Contains}
use Rattle.std.specs.List.{list_all, All}
use Rattle.cast_types.specs.declared.names.Key.{Key}
use Rattle.cast_types.specs.declared.names.Proc.{Proc}
use Rattle.cast_types.specs.declared.names.GroupNo.{GroupNo}
use Rattle.cast_types.specs.declared.clock.Clock.{Clock}
use Rattle.cast_types.specs.declared.source.Source.{Source}
use Rattle.cast_types.specs.Names.{Entry, proc_eq}
use Rattle.cast_types.specs.Sources.{source}
use Rattle.cast_types.specs.Stamps.{ClockList}
use Rattle.cast_clock.specs.Times.{at_most}
use Rattle.cast_message.specs.Receipts.{key_eq}
use Rattle.cast_ready.specs.declared.row.ProcessUpdate.{ProcessUpdate}
use Rattle.cast_ready.specs.declared.row.ProcessUpdate.TheVariants as fact
use Rattle.cast_ready.specs.DeliveredCounts.{DeliveredCounts, count_at}
use Rattle.cast_ready.specs.declared.row.Row.{Row}
use Rattle.cast_ready.specs.declared.offered.Offered.{Offered}
use Rattle.cast_ready.specs.Rows.{has_passed_row}
use Rattle.std.specs.Option.{option_map_or}
use Rattle.cast_delay.specs.Queue.{offered_under}
use Rattle.cast_delay.specs.Settled.{is_next_of}
use Rattle.cast_delay.specs.declared.floor.Floor.{Floor}

-- each row has passed so many messages of each source
abbrev pub IsUnder : DeliveredCounts → List Row → Type 0
IsUnder counts rows =
    (row : Row) → Contains rows row → (s : Source) → 0 < count_at counts s
    → has_passed_row row s (count_at counts s) ≡ true

-- no count is less than it was
abbrev pub Rises : DeliveredCounts → DeliveredCounts → Type 0
Rises old new = (s : Source) → count_at old s ≤ count_at new s

-- a count of a view of a group is not 0, and not above these
abbrev pub IsBelow : DeliveredCounts → GroupNo → ℕ → Entry → Type 0
IsBelow counts g view e = (0 < e.1) × (e.1 ≤ count_at counts (source g view e.0))

-- a group's clock counts something, and nothing above these
pub record IsWithin (counts : DeliveredCounts) (g : GroupNo) (clock : Clock) : Type 0 where
  pub some : 0 < length clock.counts
  pub each : All (IsBelow counts g clock.view) clock.counts

-- and so of each of these groups that a time has
abbrev pub AreWithin : DeliveredCounts → ClockList → List GroupNo → Type 0
AreWithin counts times groups =
    (e : GroupNo × Clock) → Contains times e → Contains groups e.0 → IsWithin counts e.0 e.1

-- the floor lies under the rows, and what it has of the message that came last is so
pub record IsFloor (rows : List Row) (offered : List Offered) (floor : Floor) : Type 0 where
  pub under : IsUnder floor.counts rows
  pub within : (o : Offered) → Contains offered o → o.key ≡ floor.key
      → AreWithin floor.counts o.times floor.groups.items

-- a fact leaves what the rows of a process have passed: it is a time that covers theirs
abbrev pub covers_told : ProcessUpdate → Proc → List Row → Bool
covers_told (fact.Standing g standing) p rows = false
covers_told (fact.Time t) p rows =
    list_all (λ row. not (proc_eq row.process p) || at_most row.time t) rows

-- the groups of the message under a key that are within the floor
abbrev pub groups_of : Floor → Key → List GroupNo
groups_of floor key = if key_eq floor.key key then floor.groups.items else []

-- a delivery of the message under a key leaves what the rows have passed
abbrev pub stays_delivered : List Offered → Proc → Key → List Row → Bool
stays_delivered offered p key rows =
    option_map_or (λ o. is_next_of p o.id rows) (offered_under offered key) true

-- a floor that stays, or one of which nothing is known
abbrev pub KeptIf : Bool → Floor → Floor → Type 0
KeptIf true before after = after ≡ before
KeptIf false before after = (after.counts ≡ []) × (after.groups.items ≡ [])
