-- What the console answers a line: the text, what came of its event, and what is left as it was.
use Rattle.std.specs.Prelude.{◌≡◌, ℕ, List, [], ◌++◌, codes, Option, Some, None, Result, Ok, Err}
use Rattle.std.specs.Fmt.{decimal}
use Rattle.cast_events.specs.declared.event.Event.{Event}
use Rattle.cast_events.specs.declared.event.Event.TheVariants as event
use Rattle.cast_pool.specs.declared.kept.Done.{Done}
use Rattle.cast_pool.specs.declared.task.Task.TheVariants.{Serve}
use Rattle.cast_pool.specs.Kept.{Seen}
use Rattle.cast_pool.specs.Served.{IsDone, IsLeft}
use Rattle.cast_console.specs.declared.line.Line.{Line}
use Rattle.cast_console.specs.declared.line.Line.TheVariants as line
use Rattle.cast_console.specs.declared.line.LineFault.{LineFault}
use Rattle.cast_events.specs.declared.told.Told.{Told}
use Rattle.cast_console.specs.Lines.{fault_number}
use Rattle.cast_console.specs.Texts.{datagrams_text, domains_text, group_lines, outcome_text}
use Rattle.cast_console.specs.Texts.{record_text, retire_text, show_text, trace_text}

-- the event that a line asks for
abbrev pub event_of : Line → Option Event
event_of line.Domains = None
event_of (line.Show d) = None
event_of (line.Groups d) = None
event_of (line.Suspect d s) = Some (event.Suspect d s)
event_of (line.Quota d name value) = Some (event.Quota d name value)
event_of (line.Retire d) = None
event_of line.Trace = None
event_of line.Datagrams = None
event_of line.Record = None
event_of line.Keys = None
event_of line.Stop = None

-- the same, where a line is one
abbrev pub asked_event : Result Line LineFault → Option Event
asked_event (Ok l) = event_of l
asked_event (Err fault) = None

-- The text

abbrev pub done_text : Option Done → List ℕ
done_text None = []
done_text (Some d) = outcome_text d.outcome

-- what a line shows of a kept table, of what the daemon tells beside it, or of what came of its
-- event
abbrev pub line_text : Line → Told → Seen → Option Done → List ℕ
line_text line.Domains t s came = domains_text s.table
line_text (line.Show d) t s came = show_text d s.table
line_text (line.Groups d) t s came = group_lines d s.table
line_text (line.Suspect d site) t s came = done_text came
line_text (line.Quota d name value) t s came = done_text came
line_text (line.Retire d) t s came = retire_text d s.table
line_text line.Trace t s came = trace_text s
line_text line.Datagrams t s came = datagrams_text t.datagrams
line_text line.Record t s came = record_text t.record
line_text line.Keys t s came = codes "ok"
line_text line.Stop t s came = codes "ok"

-- the same, and why a line is none
abbrev pub answer_text : Result Line LineFault → Told → Seen → Option Done → List ℕ
answer_text (Ok l) t s came = line_text l t s came
answer_text (Err fault) t s came = codes "fault " ++ decimal (fault_number fault)

-- What came of the event

-- an event is served under the number 0
abbrev pub IsServed : Event → Done → Seen → Seen → ℕ → ℕ → Type 0
IsServed e came old new was now = (came.number ≡ 0) × IsDone (Serve e) came.outcome old new was now

-- what is handed on: what came of the event, and nothing where there is none
abbrev pub HandsOn : Option Event → Option Done → Seen → Seen → ℕ → ℕ → Type 0
HandsOn None None old new was now = Unit {0}
HandsOn None (Some came) old new was now = ⊥
HandsOn (Some e) None old new was now = ⊥
HandsOn (Some e) (Some came) old new was now = IsServed e came old new was now

-- without an event, the kept table and the worker's count are as they were
abbrev pub LeavesAll : Option Event → Seen → Seen → ℕ → ℕ → Type 0
LeavesAll None old new was now = IsLeft old new was now
LeavesAll (Some e) old new was now = Unit {0}
