-- Reading a script from its bytes: what it says, or the line of its first fault with the reason.
use Rattle.std.specs.Prelude.{◌≡◌, ℕ, ◌+◌, ◌==◌, if◌then◌else◌, List, []}
use Rattle.std.specs.Prelude.{◌∷◌, ◌++◌, length, filter, Result, Ok, Err}
use Rattle.cast_types.specs.declared.names.SiteNo.{SiteNo}
use Rattle.cast_events.specs.declared.config.DomainConfig.{DomainConfig}
use Rattle.cast_events.specs.declared.event.Event.{Event}
use Rattle.cast_script.specs.declared.words.Reason.{Reason}
use Rattle.cast_script.specs.declared.words.Reason.TheVariants.{Order}
use Rattle.cast_script.specs.declared.words.LineFault.{LineFault}
use Rattle.cast_script.specs.declared.words.LineFault.TheVariants as fault
use Rattle.cast_script.specs.declared.lines.DomainOrEvent.{DomainOrEvent}
use Rattle.cast_script.specs.declared.lines.DomainOrEvent.TheVariants as said
use Rattle.cast_script.specs.declared.script.Script.{Script}
use Rattle.cast_script.specs.declared.script.ScriptFault.{ScriptFault}
use Rattle.cast_script.specs.declared.script.ScriptFault.TheVariants as script
use Rattle.cast_script.specs.declared.script.Line.{Line}
use Rattle.cast_script.specs.Scripts.{is_used}
use Rattle.cast_script.specs.Words.{parts_at}
use Rattle.cast_script.specs.WordReadings.{◌>>=◌, each}
use Rattle.cast_script.specs.LineReadings.{site_line, domain_or_event, event_line}

-- what a function returned of lines is what reading gives, unless memory ran out; a fault has the
-- number of its line
abbrev pub GivesAt : {X : Type 0} → Result X ScriptFault → Result X (ℕ × Reason) → Type 0
GivesAt (Ok x) read = read ≡ Ok x
GivesAt (Err (script.At line reason)) read = read ≡ Err (line, reason)
GivesAt (Err script.NoMemory) read = Unit {0}

-- a line with its number
abbrev pub Numbered : Type 0
Numbered = ℕ × List ℕ

abbrev pub numbered_line : Line → Numbered
numbered_line l = (l.number, l.text.now)

-- lines with their numbers, of which the first is n
abbrev pub numbered_from : ℕ → List (List ℕ) → List Numbered
numbered_from n [] = []
numbered_from n (line ∷ lines) = (n, line) ∷ numbered_from (n + 1) lines

-- the lines that are neither empty nor comments
abbrev pub used_of : List (List ℕ) → List Numbered
used_of lines = filter (λ l. is_used l.1) (numbered_from 1 lines)

-- the number of the line behind the last; nothing behind the last line feed is no line
abbrev pub end_after : ℕ → List (List ℕ) → ℕ
end_after n [] = n
end_after n (line ∷ []) = if length line == 0 then n else n + 1
end_after n (line ∷ next ∷ lines) = end_after (n + 1) (next ∷ lines)

-- a fault of a line, with its number
abbrev pub fault_at : ℕ → LineFault → ScriptFault
fault_at n (fault.Refused reason) = script.At n reason
fault_at n fault.NoMemory = script.NoMemory

-- what a line is read as, a fault with the number of the line
abbrev pub at_line : {A : Type 0} → ℕ → Result A Reason → Result A (ℕ × Reason)
at_line n (Ok x) = Ok x
at_line n (Err reason) = Err (n, reason)

unfoldable pub site_at : Numbered → Result SiteNo (ℕ × Reason)
site_at l = at_line l.0 (site_line l.1)

unfoldable pub domain_or_event_at : SiteNo → List DomainConfig → Numbered
    → Result DomainOrEvent (ℕ × Reason)
domain_or_event_at own before l = at_line l.0 (domain_or_event own before l.1)

unfoldable pub event_at : Numbered → Result Event (ℕ × Reason)
event_at l = at_line l.0 (event_line l.1)

-- a script of these domains with no events; there is to be a domain
unfoldable pub no_events : SiteNo → ℕ → List DomainConfig → Result Script (ℕ × Reason)
no_events site end [] = Err (end, Order)
no_events site end (d ∷ ds) =
    Ok (record { config = record { site = site; domains = d ∷ ds }; events = [] })

-- the first event, and those of the lines behind its own
abbrev pub events_from : Event → List Numbered → Result (List Event) (ℕ × Reason)
events_from first lines = do
  events ← each event_at lines
  Ok (first ∷ events)

-- a script of these domains, of which this is the first event
unfoldable pub events_on : SiteNo → List DomainConfig → Event → List Numbered
    → Result Script (ℕ × Reason)
events_on site domains first lines = do
  events ← events_from first lines
  Ok (record { config = record { site = site; domains = domains }; events = events })

-- the domains behind these, and then the events
unfoldable pub domains_on : SiteNo → ℕ → List DomainConfig → List Numbered
    → Result Script (ℕ × Reason)
domains_on site end before [] = no_events site end before
domains_on site end before (line ∷ lines) = do
  next ← domain_or_event_at site before line
  elim next [
    | said.Domain d ↦ domains_on site end (before ++ d ∷ []) lines
    | said.Event e ↦ events_on site before e lines
  ]

-- the site, and then the rest
unfoldable pub site_on : ℕ → List Numbered → Result Script (ℕ × Reason)
site_on end [] = Err (end, Order)
site_on end (line ∷ lines) = do
  site ← site_at line
  domains_on site end [] lines

-- the script that a text is, or the number of the first line with a fault, from 1 on, and the
-- reason
unfoldable pub script_of : List ℕ → Result Script (ℕ × Reason)
script_of text = site_on (end_after 1 (parts_at 10 text)) (used_of (parts_at 10 text))
