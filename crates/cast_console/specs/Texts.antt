-- The texts of the console's answers: of a table, of a trace, of what came of an event.
-- Lines are parted by line feeds, without a last one.
use Rattle.std.specs.Prelude.{ℕ, ◌-◌, List, [], ◌∷◌, ◌++◌, codes, Bool, if◌then◌else◌}
use Rattle.std.specs.Prelude.{length, map, Option, Some, None, unwrap_or, Result, Ok, Err}
use Rattle.std.specs.List.{filter_map, flat_map, join_by, range_with_len}
use Rattle.std.specs.Option.{option_map}
use Rattle.std.specs.Fmt.{decimal}
use Rattle.cast_types.specs.declared.names.DomainNo.{DomainNo}
use Rattle.cast_types.specs.declared.names.Proc.{Proc}
use Rattle.cast_types.specs.Refusals.{refusal_code}
use Rattle.cast_events.specs.declared.event.Taken.{Taken}
use Rattle.cast_events.specs.declared.event.Taken.TheVariants as taken
use Rattle.cast_events.specs.declared.log.Fault.{Fault}
use Rattle.cast_events.specs.declared.log.Fault.TheVariants as fault
use Rattle.cast_domain.specs.declared.show.Shown.{Shown}
use Rattle.cast_domain.specs.declared.show.GroupShown.{GroupShown}
use Rattle.cast_table.specs.declared.table.Table.{Table}
use Rattle.cast_table.specs.Shows.{groups_at, shown_at}
use Rattle.cast_events.specs.declared.told.Datagrams.{Datagrams}
use Rattle.cast_events.specs.declared.told.Recording.{Recording}
use Rattle.cast_events.specs.declared.told.Recording.TheVariants.{Off, Running, Ended}
use Rattle.cast_pool.specs.declared.task.Outcome.{Outcome}
use Rattle.cast_pool.specs.declared.task.Outcome.TheVariants as outcome
use Rattle.cast_pool.specs.Kept.{Seen, events_of}

-- Lines

abbrev pub line_feed : List ℕ
line_feed = 10 ∷ []

-- lines, parted by line feeds
abbrev pub lines_text : List (List ℕ) → List ℕ
lines_text lines = join_by (λ l. l) line_feed lines

-- a text, with a line feed where a line stands in it
abbrev pub line_begun : List ℕ → List ℕ
line_begun [] = []
line_begun (c ∷ cs) = (c ∷ cs) ++ line_feed

-- lines behind those of a text
abbrev pub lines_after : List ℕ → List (List ℕ) → List ℕ
lines_after [] lines = lines_text lines
lines_after (c ∷ cs) lines = (c ∷ cs) ++ flat_map (λ l. line_feed ++ l) lines

-- What a domain shows

abbrev pub state_text : Bool → List ℕ
state_text halted = if halted then codes "halted" else codes "running"

-- as in `domain 1 running`
abbrev pub domain_line : DomainNo → Shown → List ℕ
domain_line d s = codes "domain " ++ (decimal d.0 ++ (codes " " ++ state_text s.halted))

-- as in `domain 1 sessions 1 held 0 casts 1 moment 0`
abbrev pub shown_text : DomainNo → Shown → List ℕ
shown_text d s =
    codes "domain " ++ (decimal d.0
    ++ (codes " sessions " ++ (decimal s.sessions
    ++ (codes " held " ++ (decimal s.held
    ++ (codes " casts " ++ (decimal s.casts ++ (codes " moment " ++ decimal s.moment))))))))

-- as in `1.1`
abbrev pub proc_text : Proc → List ℕ
proc_text p = decimal p.site.0 ++ (codes "." ++ decimal p.serial)

abbrev pub member_text : Proc → List ℕ
member_text p = codes " " ++ proc_text p

abbrev pub frozen_text : Bool → List ℕ
frozen_text frozen = if frozen then codes " frozen" else codes " open"

-- as in ` holder 1.1 members 1.1 2.1 open`, or ` none` where no view is known
abbrev pub view_text : Option Proc → List Proc → Bool → List ℕ
view_text None members frozen = codes " none"
view_text (Some p) members frozen =
    codes " holder "
    ++ (proc_text p ++ (codes " members" ++ (flat_map member_text members ++ frozen_text frozen)))

-- as in `group 1 view 1 holder 1.1 members 1.1 2.1 open`
abbrev pub group_line : GroupShown → List ℕ
group_line g =
    codes "group " ++ (decimal g.group.0
    ++ (codes " view " ++ (decimal g.number ++ view_text g.holder g.members g.frozen)))

-- a line for each group
abbrev pub groups_text : List GroupShown → List ℕ
groups_text groups = lines_text (map group_line groups)

-- What a table shows

-- the numbers of domains from one on, rising
unfoldable pub numbers_from : ℕ → List ℕ
numbers_from n = range_with_len n (256 - n)

abbrev pub domain_numbered : ℕ → DomainNo
domain_numbered n = record { 0 = n }

-- the line of the domain of a number, where there is one
abbrev pub line_at : Table → ℕ → Option (List ℕ)
line_at table n = option_map (domain_line (domain_numbered n)) (shown_at (domain_numbered n) table)

-- a line for each domain, by rising number
abbrev pub domains_text : Table → List ℕ
domains_text table = lines_text (filter_map (line_at table) (numbers_from 1))

-- the text of a domain, where there is one
abbrev pub of_domain_text : Option (List ℕ) → List ℕ
of_domain_text text = unwrap_or text (codes "no domain")

abbrev pub show_text : DomainNo → Table → List ℕ
show_text d table = of_domain_text (option_map (shown_text d) (shown_at d table))

abbrev pub group_lines : DomainNo → Table → List ℕ
group_lines d table = of_domain_text (option_map groups_text (groups_at d table))

-- a domain that is there may retire
abbrev pub retire_text : DomainNo → Table → List ℕ
retire_text d table = of_domain_text (option_map (λ s. codes "ok") (shown_at d table))

-- How many events were taken, and how many of them are in the trace

abbrev pub trace_text : Seen → List ℕ
trace_text s =
    codes "events " ++ (decimal (events_of s) ++ (codes " kept " ++ decimal (length s.trace)))

-- What came of an event

abbrev pub taken_text : Taken → List ℕ
taken_text taken.Nothing = codes "ok"
taken_text (taken.Opened serial) = codes "ok"
taken_text (taken.Refused r) = codes "refused " ++ decimal (refusal_code r)
taken_text (taken.Entries entries) = codes "ok"

abbrev pub untaken_text : Fault → List ℕ
untaken_text fault.NoMemory = codes "no memory"
untaken_text (fault.Halted d) = codes "halted " ++ decimal d.0
untaken_text fault.NoDomain = codes "no domain"

abbrev pub answered_text : Result Taken Fault → List ℕ
answered_text (Ok t) = taken_text t
answered_text (Err e) = untaken_text e

abbrev pub outcome_text : Outcome → List ℕ
outcome_text (outcome.Answered answer outs) = answered_text answer
outcome_text (outcome.Shown shown) = codes "ok"
outcome_text (outcome.Undecoded fault) = codes "ok"

-- What a daemon tells beside its table

-- as in `datagrams sent 1 received 1 lost 0 undecoded 0`
abbrev pub datagrams_text : Datagrams → List ℕ
datagrams_text d =
    codes "datagrams sent " ++ (decimal d.sent
    ++ (codes " received " ++ (decimal d.received
    ++ (codes " lost " ++ (decimal d.lost ++ (codes " undecoded " ++ decimal d.undecoded))))))

-- as in `record running waiting 0 lost 0`
abbrev pub record_text : Recording → List ℕ
record_text Off = codes "record off"
record_text (Running waiting lost) =
    codes "record running waiting " ++ (decimal waiting ++ (codes " lost " ++ decimal lost))
record_text Ended = codes "record ended"
