-- What contracts see of a table beside its trace, and what holds whenever nobody is changing it.
use Rattle.std.specs.Prelude.{◌≡◌, ℕ, ◌+◌, ◌==◌, nat_le, Bool, true, List, ◌++◌, length, Option}
use Rattle.std.specs.Prelude.{Some, All}
use Rattle.std.specs.List.{AllZip}
use Rattle.cast_types.specs.declared.names.SiteNo.{SiteNo}
use Rattle.cast_events.specs.declared.config.Config.{Config}
use Rattle.cast_events.specs.declared.config.DomainConfig.{DomainConfig}
use Rattle.cast_rules.specs.State.{State, opening}
use Rattle.cast_domain.specs.declared.domain.Domain.{Domain}
use Rattle.cast_domain.specs.declared.shared.Shared.{Shared}
use Rattle.cast_domain.specs.Records.{number_of}
use Rattle.cast_domain.specs.Shared.{part_of}
use Rattle.cast_table.specs.declared.table.Table.{Table}
use Rattle.cast_table.specs.Tables.{by_number, domains_of, shared_of}
use Rattle.cast_table.specs.Owns.{are_distinct}
use Rattle.cast_events.specs.declared.entry.Entry.{Entry}
use Rattle.cast_pool.specs.Traces.{StandsFor, LeadsAll, IsEntryOf}

-- what the daemon was opened with, how many events were taken before the trace, the trace, and the
-- table as it is
pub record Seen : Type 0 where
  pub config : Config
  pub count : ℕ
  pub trace : List Entry
  pub table : Table

abbrev pub seen_of : Config → ℕ → List Entry → Table → Seen
seen_of config count trace table =
    record { config = config; count = count; trace = trace; table = table }

-- how many events were taken
abbrev pub events_of : Seen → ℕ
events_of s = s.count + length s.trace

-- there is no number for one more
abbrev pub is_full : Seen → Bool
is_full s = events_of s == 18446744073709551615

-- the trace is trimmed before one more event
abbrev pub is_due : Seen → Bool
is_due s = nat_le 4096 (length s.trace)

-- from the opening of a domain these entries lead to what it stands for now
pub record IsReplayed (here : SiteNo) (history : List Entry) (now : Shared) (config : DomainConfig)
    (d : Domain) : Type 0 where
  pub number : number_of d ≡ config.domain
  pub end : Option State
  pub leads : LeadsAll config.domain history (Some (opening here config)) end
  pub ends : StandsFor d (part_of config.domain now) end

-- from the opening of a daemon these entries lead to its table: for each domain, and by what each
-- entry says
pub record Replays (config : Config) (history : List Entry) (table : Table) : Type 0 where
  pub distinct : are_distinct config.domains ≡ true
  pub domains : AllZip (IsReplayed config.site history (shared_of table)) (by_number config.domains)
      (domains_of table)
  pub entries : All (IsEntryOf config.domains) history

-- from the opening on, the events that came before the trace, as many as are counted, and the trace
-- lead to the table
pub record IsLed (s : Seen) : Type 0 where
  pub before : List Entry
  pub long : length before ≡ s.count
  pub replays : Replays s.config (before ++ s.trace) s.table
