-- What need not be looked at when it is asked what is ready.
-- That is each message that no process here waits for any more.
use Rattle.std.specs.Prelude.{◌≡◌, ℕ, ◌≤◌, Bool, true, not, ◌||◌, ◌==◌, nat_le}
use Rattle.std.specs.Prelude.{if◌then◌else◌, List, length, take, Some, None}
use Rattle.std.specs.List.{list_all}
use Rattle.cast_types.specs.declared.names.GroupNo.{GroupNo}
use Rattle.cast_types.specs.declared.names.Proc.{Proc}
use Rattle.cast_types.specs.declared.names.Key.{Key}
use Rattle.cast_types.specs.declared.names.Uid.{Uid}
use Rattle.cast_types.specs.Names.{proc_eq}
use Rattle.cast_ready.specs.declared.gate.Gate.{Gate}
use Rattle.cast_ready.specs.declared.row.Row.{Row}
use Rattle.cast_ready.specs.declared.row.ProcessUpdate.{ProcessUpdate}
use Rattle.cast_ready.specs.declared.row.ProcessUpdate.TheVariants as fact
use Rattle.cast_ready.specs.declared.offered.Offered.{Offered}
use Rattle.cast_ready.specs.Rows.{gate_in, done_in}
use Rattle.cast_delay.specs.Queue.{is_awaited, offered_under}

-- the message's view is not the one that stands, or each row's process that is a member of its
-- group has delivered it
abbrev pub is_settled : List (GroupNo × Gate) → List Row → Offered → Bool
is_settled gates rows o =
    not (o.id.view == (gate_in gates o.id.group).number) || not (is_awaited rows o.id)

-- the first n messages are settled
pub record AreSettled (gates : List (GroupNo × Gate)) (rows : List Row) (offered : List Offered)
    (n : ℕ) : Type 0 where
  pub within : n ≤ length offered
  pub each : list_all (is_settled gates rows) (take n offered) ≡ true

-- how many of these are settled still once a row has taken in a fact: a standing may make a process
-- wait for any of them
abbrev pub despite_fact : ProcessUpdate → ℕ → ℕ
despite_fact (fact.Standing g standing) n = 0
despite_fact (fact.Time time) n = n

-- no row of the process has delivered a later message of the message's source
abbrev pub is_next_of : Proc → Uid → List Row → Bool
is_next_of p id rows =
    list_all (λ row. not (proc_eq row.process p)
    || nat_le (done_in row id.group id.view id.proc) id.count) rows

-- and once a process has delivered the message under a key
abbrev pub despite_delivery : List Offered → Proc → Key → List Row → ℕ → ℕ
despite_delivery offered p key rows n =
    elim (offered_under offered key) [ Some o ↦ if is_next_of p o.id rows then n else 0 | None ↦ n ]
