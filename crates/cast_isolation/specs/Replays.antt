-- What a replay gives: for each domain, what a daemon gives that serves it alone.
-- It gives that up to where want of memory halted the domain.
use Rattle.std.specs.Prelude.{◌≡◌, ◌==◌, ℕ, ◌+◌, ◌<◌, max, Bool, true, false}
use Rattle.std.specs.Prelude.{if◌then◌else◌, List, [], ◌∷◌, ◌++◌, map, filter, take}
use Rattle.std.specs.Prelude.{slice_get, Option, Some, None, is_some, Result, Ok, Err, ◌↔◌}
use Rattle.std.specs.Option.{option_map_or}
use Rattle.std.specs.List.{AllZip, find, range_with_len}
use Rattle.cast_types.specs.declared.names.DomainNo.{DomainNo}
use Rattle.cast_types.specs.declared.names.SiteNo.{SiteNo}
use Rattle.cast_types.specs.declared.refusal.Refusal.TheVariants as refusal
use Rattle.cast_message.specs.declared.client.Push.{Push}
use Rattle.cast_message.specs.declared.site.SiteFrame.{SiteFrame}
use Rattle.cast_events.specs.declared.config.Config.{Config}
use Rattle.cast_events.specs.declared.config.DomainConfig.{DomainConfig}
use Rattle.cast_domain.specs.declared.domain.Domain.{Domain}
use Rattle.cast_events.specs.declared.event.Event.{Event}
use Rattle.cast_events.specs.declared.event.Outs.{Outs}
use Rattle.cast_events.specs.declared.event.Taken.{Taken}
use Rattle.cast_events.specs.declared.event.Taken.TheVariants.{Nothing, Refused}
use Rattle.cast_events.specs.Events.{domain_of}
use Rattle.cast_domain.specs.Records.{number_of, is_halted}
use Rattle.cast_rules.specs.State.{State, opening}
use Rattle.cast_rules.specs.Run.{IsRun, entries_for}
use Rattle.cast_events.specs.declared.log.Fault.{Fault}
use Rattle.cast_events.specs.declared.log.Fault.TheVariants.{NoMemory, Halted, NoDomain}
use Rattle.cast_events.specs.declared.log.Given.{Given}
use Rattle.cast_events.specs.declared.log.Log.{Log}
use Rattle.cast_table.specs.Tables.{domain_eq, IsLeastOf}
use Rattle.cast_table.specs.Owns.{is_configured, are_distinct, have_rising_groups, names, is_own}

-- The part of one domain

-- a domain's own events: those that name it, and the ticks
abbrev pub own : DomainNo → List Event → List Event
own d events = filter (is_own d) events

-- of answers to events, those to the events that name a domain
abbrev pub named_answers : {X : Type 0} → DomainNo → List Event → List X → List X
named_answers d [] answers = []
named_answers d (e ∷ events) [] = []
named_answers d (e ∷ events) (a ∷ answers) =
    if names d e then a ∷ named_answers d events answers else named_answers d events answers

-- what bears the number of a domain
abbrev pub of_domain : {A B : Type 0} → DomainNo → List (DomainNo × A × B) → List (DomainNo × A × B)
of_domain d xs = filter (λ x. domain_eq x.0 d) xs

-- the same without the number
abbrev pub without_domain : {A B : Type 0} → List (DomainNo × A × B) → List (A × B)
without_domain xs = map (λ x. (x.1, x.2)) xs

-- the frames sent for a domain, each with the site that it goes to
abbrev pub frames_of : DomainNo → List (DomainNo × SiteNo × SiteFrame) → List (SiteNo × SiteFrame)
frames_of d frames = without_domain (of_domain d frames)

-- the entries pushed for a domain, each with the serial of the session that it went to
abbrev pub pushes_of : DomainNo → List (DomainNo × ℕ × Push) → List (ℕ × Push)
pushes_of d pushed = without_domain (of_domain d pushed)

-- the highest serial whose session was pushed something, 0 where none was
abbrev pub last_serial : List (ℕ × Push) → ℕ
last_serial [] = 0
last_serial (x ∷ pushed) = max x.0 (last_serial pushed)

-- for each serial from 1 to that one what was pushed to its session, in order
abbrev pub by_session : List (ℕ × Push) → List (List Push)
by_session pushed = map (entries_for pushed) (range_with_len 1 (last_serial pushed))

-- the lists by session of whatever entries become those with one entry more, pushed to the session
-- of a serial
abbrev pub AddsEntry : ℕ → Push → List (List Push) → List (List Push) → Type 0
AddsEntry k entry old new =
    (pushed : List (ℕ × Push)) → old ≡ by_session pushed
    → new ≡ by_session (pushed ++ (k, entry) ∷ [])

-- an answer says that there was no memory to begin with
abbrev pub lacks_memory : Result Taken Fault → Bool
lacks_memory (Ok taken) = false
lacks_memory (Err NoMemory) = true
lacks_memory (Err (Halted d)) = false
lacks_memory (Err NoDomain) = false

-- what a domain gave, where this came of events for it and for others
abbrev pub given_of : Outs → Domain → Given
given_of outs d =
    record {
      domain = number_of d;
      pushes = by_session (pushes_of (number_of d) outs.pushed);
      sent = frames_of (number_of d) outs.frames;
      halted = is_halted d;
    }

-- Where domains were halted

-- a domain as it was served: how it is configured, and the place, from 0 on, of the event at which
-- want of memory halted it, if one did
pub record Served : Type 0 where
  pub config : DomainConfig
  pub halt : Option ℕ

-- what stands before a place, all where there is none
abbrev pub until : {X : Type 0} → Option ℕ → List X → List X
until None xs = xs
until (Some place) xs = take place xs

-- the event at a place is a domain's own
abbrev pub is_own_at : DomainNo → List Event → ℕ → Bool
is_own_at d events place = option_map_or (is_own d) (slice_get events place) false

-- the events that a domain took: its own before its halt
abbrev pub taken_by : Served → List Event → List Event
taken_by s events = own s.config.domain (until s.halt events)

-- a domain was halted at the event of a place
abbrev pub is_halted_at : ℕ → Served → Bool
is_halted_at place s = option_map_or (λ n. n == place) s.halt false

-- the numbers of the domains that were halted at the event of a place
abbrev pub halted_at : ℕ → List Served → List DomainNo
halted_at place served = map (λ s. s.config.domain) (filter (is_halted_at place) served)

-- the domain of a number, as it was served
abbrev pub served_as : DomainNo → List Served → Option Served
served_as d served = find (λ s. domain_eq s.config.domain d) served

-- Answers

-- the answer to a tick, by the domains that it halted: the least of them, or that there is nothing
-- to tell
abbrev pub IsTickAnswer : List DomainNo → Result Taken Fault → Type 0
IsTickAnswer halted (Ok taken) = (taken ≡ Nothing) × IsLeastOf None halted
IsTickAnswer halted (Err NoMemory) = ⊥
IsTickAnswer halted (Err (Halted d)) = IsLeastOf (Some d) halted
IsTickAnswer halted (Err NoDomain) = ⊥

-- the answer at a place to an event that names a domain, by where that was halted: there it tells
-- so, behind it refuses. What it is before, the domain says where it is served alone
abbrev pub IsNamedAnswer : ℕ → DomainNo → Option ℕ → Result Taken Fault → Type 0
IsNamedAnswer place d None answer = Unit {0}
IsNamedAnswer place d (Some halt) answer =
    (place ≡ halt → answer ≡ Err (Halted d)) × (halt < place → answer ≡ Ok (Refused refusal.Halted))

-- the same where the domain was served so, or is none that is configured
abbrev pub IsAnswerOf : ℕ → Option Served → Result Taken Fault → Type 0
IsAnswerOf place None answer = answer ≡ Err NoDomain
IsAnswerOf place (Some s) answer = IsNamedAnswer place s.config.domain s.halt answer

-- the answer at a place to an event that names this domain, or none
abbrev pub IsAnswerTo : Option DomainNo → List Served → ℕ → Result Taken Fault → Type 0
IsAnswerTo None served place answer = IsTickAnswer (halted_at place served) answer
IsAnswerTo (Some d) served place answer = IsAnswerOf place (served_as d served) answer

-- the answer to an event at a place, where domains were served so
abbrev pub IsAnswer : List Served → ℕ → Event → Result Taken Fault → Type 0
IsAnswer served place event answer = IsAnswerTo (domain_of event) served place answer

-- each event is answered, where the first stands at a place
abbrev pub AreAnswersFrom : ℕ → List Served → List Event → List (Result Taken Fault) → Type 0
AreAnswersFrom place served [] [] = Unit {0}
AreAnswersFrom place served [] (a ∷ answers) = ⊥
AreAnswersFrom place served (e ∷ events) [] = ⊥
AreAnswersFrom place served (e ∷ events) (a ∷ answers) =
    IsAnswer served place e a × AreAnswersFrom (place + 1) served events answers

-- each event is answered
abbrev pub AreAnswers : List Served → List Event → List (Result Taken Fault) → Type 0
AreAnswers served events answers = AreAnswersFrom 0 served events answers

-- Whole replays

-- what is given for a domain that was served so: up to its halt it answered, sent and pushed what a
-- daemon does that serves it alone, with its own events and no other
pub record IsServed (here : SiteNo) (events : List Event) (answers : List (Result Taken Fault))
    (s : Served) (g : Given) : Type 0 where
  pub domain : g.domain ≡ s.config.domain
  pub shown : g.halted ≡ is_some s.halt
  -- none but its own event halts a domain
  pub halted : (place : ℕ) → s.halt ≡ Some place → is_own_at s.config.domain events place ≡ true
  pub taken : List Taken
  pub pushed : List (ℕ × Push)
  pub end : State
  pub answered : named_answers s.config.domain (until s.halt events) answers
      ≡ map Ok (named_answers s.config.domain (taken_by s events) taken)
  pub runs : IsRun (opening here s.config) (taken_by s events) taken g.sent pushed end
  pub pushes : g.pushes ≡ by_session pushed

-- a log is all that comes of the events: each configured domain is served, in the order of the
-- configuration, and each event is answered by where want of memory halted domains
pub record IsReplay (config : Config) (events : List Event) (log : Log) : Type 0 where
  pub served : List Served
  pub configured : map (λ s. s.config) served ≡ config.domains
  pub given : AllZip (IsServed config.site events log.answers) served log.given
  pub answers : AreAnswers served events log.answers

-- what the log of a replay says, where no two domains have one number and each names its groups in
-- rising order
abbrev pub SaysReplay : Config → List Event → Log → Type 0
SaysReplay config events log =
    are_distinct config.domains ≡ true → have_rising_groups config.domains ≡ true
    → IsReplay config events log

-- an event is for a domain: it names one that is configured, or is a tick
abbrev pub finds_domain : Event → List DomainConfig → Bool
finds_domain event configs = option_map_or (λ d. is_configured d configs) (domain_of event) true

-- an event is answered that it names no domain exactly where it names one that is not configured; a
-- tick never is
abbrev pub TellsNoDomain : List DomainConfig → Event → Result Taken Fault → Type 0
TellsNoDomain configs event answer = (answer ≡ Err NoDomain) ↔ (finds_domain event configs ≡ false)

-- the same of each event
abbrev pub AnswersNoDomain : Config → List Event → Log → Type 0
AnswersNoDomain config events log = AllZip (TellsNoDomain config.domains) events log.answers
