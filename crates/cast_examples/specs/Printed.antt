-- What a script prints, computed from its text.
-- It is read, each domain runs by the definitions, and the log is written.
use Rattle.std.specs.Prelude.{ℕ, ◌==◌, Bool, true, false, if◌then◌else◌, List, []}
use Rattle.std.specs.Prelude.{◌∷◌, ◌++◌, map, Option, Some, None, Result, Ok, Err}
use Rattle.std.specs.List.{find, list_all}
use Rattle.cast_types.specs.declared.names.DomainNo.{DomainNo}
use Rattle.cast_types.specs.declared.names.SiteNo.{SiteNo}
use Rattle.cast_events.specs.declared.config.DomainConfig.{DomainConfig}
use Rattle.cast_events.specs.declared.event.Event.{Event}
use Rattle.cast_events.specs.declared.event.Taken.{Taken}
use Rattle.cast_events.specs.declared.event.Taken.TheVariants.{Nothing}
use Rattle.cast_events.specs.declared.log.Fault.{Fault}
use Rattle.cast_events.specs.declared.log.Fault.TheVariants.{NoDomain}
use Rattle.cast_events.specs.declared.log.Given.{Given}
use Rattle.cast_events.specs.declared.log.Log.{Log}
use Rattle.cast_events.specs.Events.{domain_of}
use Rattle.cast_rules.specs.State.{State, opening, serials}
use Rattle.cast_rules.specs.AtRest.{is_at_rest}
use Rattle.cast_rules.specs.Run.{Ran, before_event, entries_for, ran_on}
use Rattle.cast_rules.specs.Step.{answer_of_event}
use Rattle.cast_script.specs.declared.words.Reason.{Reason}
use Rattle.cast_script.specs.declared.script.Script.{Script}
use Rattle.cast_script.specs.Readings.{script_of}
use Rattle.cast_print.specs.Logs.{log_text}

-- lines, each with its line feed
abbrev pub lines : List (List ℕ) → List ℕ
lines [] = []
lines (line ∷ rest) = line ++ 10 ∷ lines rest

-- a domain with its run so far
abbrev pub Tenant : Type 0
Tenant = DomainConfig × Ran

abbrev pub is_of : DomainNo → Tenant → Bool
is_of d tenant = tenant.0.domain.0 == d.0

-- the event is one of the domain: it names it, or is one of all domains
abbrev pub concerns : Option DomainNo → Tenant → Bool
concerns (Some d) tenant = is_of d tenant
concerns None tenant = true

abbrev pub begin_tenant : SiteNo → DomainConfig → Tenant
begin_tenant site config = (
  config,
  record { answers = []; sent = []; pushed = []; state = opening site config },
)

-- each event of the domain is followed by two passes
abbrev pub serve_tenant : Event → Tenant → Tenant
serve_tenant event tenant =
    if concerns (domain_of event) tenant then (tenant.0, ran_on 2 tenant.1 event) else tenant

abbrev pub answer_by : Event → Option Tenant → Result Taken Fault
answer_by event (Some tenant) = Ok (answer_of_event (before_event tenant.1.state) event)
answer_by event None = Err NoDomain

-- what an event is answered: by the domain that it names, and an event of all domains by none
abbrev pub answer_to : Option DomainNo → List Tenant → Event → Result Taken Fault
answer_to (Some d) tenants event = answer_by event (find (is_of d) tenants)
answer_to None tenants event = Ok Nothing

-- the answers, and the domains behind the events
abbrev pub all_served : List Tenant → List Event → List (Result Taken Fault) × List Tenant
all_served tenants [] = ([], tenants)
all_served tenants (event ∷ events) =
    let rest : List (Result Taken Fault) × List Tenant =
    all_served (map (serve_tenant event) tenants) events in
    (answer_to (domain_of event) tenants event ∷ rest.0, rest.1)

-- what a run of a domain gave
abbrev pub given_by : Tenant → Given
given_by tenant =
    record {
      domain = tenant.0.domain;
      pushes = map (entries_for tenant.1.pushed) (serials tenant.1.state);
      sent = tenant.1.sent;
      halted = false;
    }

abbrev pub log_by : List (Result Taken Fault) × List Tenant → Log
log_by ran = record { answers = ran.0; given = map given_by ran.1 }

-- the text of a script's log
abbrev pub script_text : Script → List ℕ
script_text script =
    log_text script.config.site (log_by
    (all_served (map (begin_tenant script.config.site) script.config.domains) script.events))

abbrev pub text_by : Result Script (ℕ × Reason) → Result (List ℕ) (ℕ × Reason)
text_by (Ok script) = Ok (script_text script)
text_by (Err fault) = Err fault

abbrev pub printed_text : List ℕ → Result (List ℕ) (ℕ × Reason)
printed_text text = text_by (script_of text)

-- the states of all domains behind each event
abbrev pub states_behind : List Tenant → List Event → List State
states_behind tenants [] = []
states_behind tenants (event ∷ events) =
    let now : List Tenant = map (serve_tenant event) tenants in
    map (λ tenant. tenant.1.state) now ++ states_behind now events

abbrev pub states_by : Result Script (ℕ × Reason) → List State
states_by (Ok script) =
    states_behind (map (begin_tenant script.config.site) script.config.domains) script.events
states_by (Err fault) = []

-- whether nothing is left to be done in any of them
abbrev pub rests : List ℕ → Bool
rests text = list_all is_at_rest (states_by (script_of text))
