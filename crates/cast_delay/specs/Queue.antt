-- The queue as contracts see it.
-- It has gates of groups, messages in order of receipt, what is kept of each process, and what the
-- processes have reached.
use Rattle.std.specs.Prelude.{◌≡◌, ℕ, Bool, false, not, if◌then◌else◌, List}
use Rattle.std.specs.Prelude.{map, filter, Contains, Option, Some, None}
use Rattle.std.specs.List.{fold, find, list_any}
use Rattle.std.specs.Option.{option_map, option_map_or, option_and_then}
use Rattle.std.specs.FinMap.Entries.{put}
use Rattle.cast_types.specs.declared.names.GroupNo.{GroupNo}
use Rattle.cast_types.specs.declared.names.Proc.{Proc}
use Rattle.cast_types.specs.declared.names.Key.{Key}
use Rattle.cast_types.specs.declared.names.Uid.{Uid}
use Rattle.cast_types.specs.declared.limits.TheConstants.{MAX_NUMBER}
use Rattle.cast_types.specs.Names.{Entry, group_cmp, proc_eq}
use Rattle.cast_message.specs.Receipts.{key_eq}
use Rattle.cast_ready.specs.declared.turn.Turn.{Turn}
use Rattle.cast_ready.specs.declared.row.Row.{Row}
use Rattle.cast_ready.specs.declared.offered.Offered.{Offered}
use Rattle.cast_ready.specs.declared.gate.Gate.{Gate}
use Rattle.cast_ready.specs.Ready.{open_gate}
use Rattle.cast_types.specs.Sources.{source, but_ended}
use Rattle.cast_ready.specs.DeliveredCounts.{DeliveredCounts, raised_at}
use Rattle.cast_ready.specs.Rows.{gate_in, is_causally_ready_row, is_ready_row, has_delivered_in}
use Rattle.cast_ready.specs.Rows.{passed_by, lesser_by, awaits_row, ended_row, delivered_row}

pub record Queue : Type 0 where
  pub gates : List (GroupNo × Gate)
  pub offered : List Offered
  pub rows : List Row
  -- of each source the greatest count that was delivered here
  pub reached : DeliveredCounts

abbrev pub row_of : List Row → Proc → Option Row
row_of rows p = find (λ r. proc_eq r.process p) rows

-- the rows of one process changed
abbrev pub change_row : Proc → (Row → Row) → List Row → List Row
change_row p f rows = map (λ r. if proc_eq r.process p then f r else r) rows

-- the first message offered that is ready for a row
abbrev pub first_for : List (GroupNo × Turn) → List (GroupNo × Gate) → List Offered → Row
    → Option Offered
first_for turns gates offered row = find (is_ready_row turns gates row) offered

abbrev pub offered_under : List Offered → Key → Option Offered
offered_under offered key = find (λ o. key_eq o.key key) offered

-- the key of the first message that is ready for a process, where these are the turns of groups
abbrev pub next_key : List (GroupNo × Turn) → Queue → Proc → Option Key
next_key turns q p =
    option_map (λ o. o.key) (option_and_then (first_for turns q.gates q.offered) (row_of q.rows p))

-- the first message offered that is ready for a row but for the turns of groups
abbrev pub candidate_for : List (GroupNo × Gate) → List Offered → Row → Option Offered
candidate_for gates offered row = find (λ o. is_causally_ready_row gates row o.id o.times) offered

-- and for a process, of which there is none where that was not admitted
abbrev pub candidate_in : Queue → Proc → Option Offered
candidate_in q p = option_and_then (candidate_for q.gates q.offered) (row_of q.rows p)

-- whether a process has delivered a message; one that was not admitted has delivered none
abbrev pub delivered_in : Queue → Proc → Uid → Bool
delivered_in q p id = option_map_or (λ row. has_delivered_in row id) (row_of q.rows p) false

-- how many of these ids of a view of a group a process has delivered before the first that it has
-- not
abbrev pub passed_in : Queue → Proc → GroupNo → ℕ → List Entry → ℕ
passed_in q p group view ids =
    option_map_or (λ row. passed_by row group view ids) (row_of q.rows p) 0

-- the rows after a delivery of the message under a key
abbrev pub after_delivery : List Offered → Proc → Key → List Row → List Row
after_delivery offered p key rows =
    elim (offered_under offered key) [
      | Some o ↦ change_row p (delivered_row o.id o.times) rows
      | None ↦ rows
    ]

-- what is reached after a delivery of the message under a key
abbrev pub reached_after : List Offered → Key → DeliveredCounts → DeliveredCounts
reached_after offered key reached =
    elim (offered_under offered key) [
      | Some o ↦ raised_at (source o.id.group o.id.view o.id.proc) o.id.count reached
      | None ↦ reached
    ]

-- the rows of all processes but one
abbrev pub but_row : Proc → List Row → List Row
but_row p rows = filter (λ r. not (proc_eq r.process p)) rows

-- offered no more what is under a key
abbrev pub but_offered : Key → List Offered → List Offered
but_offered key offered = filter (λ o. not (key_eq o.key key)) offered

-- the queue with another gate of a group
abbrev pub queue_gating : GroupNo → (Gate → Gate) → Queue → Queue
queue_gating g change q = record q { gates = put group_cmp g (change (gate_in q.gates g)) q.gates }

-- the queue once a group has a view of this number: no flush has frozen it, and of views below
-- nothing is told more
abbrev pub queue_viewing : GroupNo → ℕ → Queue → Queue
queue_viewing g number q =
    record q {
      gates = put group_cmp g (open_gate number) q.gates;
      rows = map (ended_row g number) q.rows;
      reached = but_ended g number q.reached;
    }

-- the queue once a process has delivered the message under a key
abbrev pub queue_delivering : Proc → Key → Queue → Queue
queue_delivering p key q =
    record q {
      rows = after_delivery q.offered p key q.rows;
      reached = reached_after q.offered key q.reached;
    }

-- whether some process that is a member of the message's group has not delivered it
abbrev pub is_awaited : List Row → Uid → Bool
is_awaited rows id = list_any (λ row. awaits_row row id) rows

-- the least count of a process's messages of a view that each member of the group has delivered,
-- MAX_NUMBER of no member
abbrev pub least_in : List Row → GroupNo → ℕ → Proc → ℕ
least_in rows group view p = fold (lesser_by group view p) MAX_NUMBER rows

-- no process has two rows
abbrev pub HasOneRowEach : List Row → Type 0
HasOneRowEach rows = (row : Row) → Contains rows row → row_of rows row.process ≡ Some row
