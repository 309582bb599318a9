-- What a trace tells of each domain.
-- Its own events, one after another, are steps of the history that it stands for.
use Rattle.std.specs.Prelude.{◌≡◌, Bool, true, false, List, [], ◌∷◌, Option, Some, None}
use Rattle.std.specs.List.{list_any}
use Rattle.cast_types.specs.declared.names.DomainNo.{DomainNo}
use Rattle.cast_types.specs.declared.refusal.Refusal.TheVariants as refusal
use Rattle.cast_events.specs.declared.config.DomainConfig.{DomainConfig}
use Rattle.cast_events.specs.declared.event.Taken.{Taken}
use Rattle.cast_events.specs.Events.{domain_of}
use Rattle.cast_rules.specs.State.{State}
use Rattle.cast_rules.specs.Run.{IsStep}
use Rattle.cast_domain.specs.declared.domain.Domain.{Domain}
use Rattle.cast_domain.specs.Records.{is_halted}
use Rattle.cast_domain.specs.Shared.{Part}
use Rattle.cast_domain.specs.Fits.{Represents}
use Rattle.cast_table.specs.Tables.{domain_eq, IsLeast}
use Rattle.cast_table.specs.Owns.{names, is_configured, is_own}
use Rattle.cast_events.specs.declared.entry.Noted.{Noted}
use Rattle.cast_events.specs.declared.entry.Noted.TheVariants.{Nothing, Opened, Refused}
use Rattle.cast_events.specs.declared.entry.Noted.TheVariants.{Entries, Halted}
use Rattle.cast_events.specs.declared.entry.Entry.{Entry}
use Rattle.cast_trail.specs.Notes.{noted_taken}

-- One domain

-- what a domain stands for, with its part of what is shared: a history, or, where want of memory
-- has halted it, none
abbrev pub StandsFor : Domain → Part → Option State → Type 0
StandsFor d part (Some s) = (is_halted d ≡ false) × Represents d part s
StandsFor d part None = is_halted d ≡ true

-- an entry says that a domain was halted at its event
abbrev pub is_among : DomainNo → List DomainNo → Bool
is_among d numbers = list_any (domain_eq d) numbers

-- the event of an entry takes a domain's history from s to t, and where it names the domain, the
-- answer that is kept is the one that a daemon gives there which serves the domain alone
pub record IsKeptStep (d : DomainNo) (e : Entry) (s : State) (t : State) : Type 0 where
  pub answer : Taken
  pub steps : IsStep s e.event answer t
  pub kept : names d e.event ≡ true → e.answer ≡ noted_taken answer

-- what an entry makes of what a domain stands for. Its own event is a step, or halts the domain,
-- whose history ends there; any other leaves it. A domain that was halted refuses each event that
-- names it
abbrev pub Leads : DomainNo → Entry → Option State → Option State → Type 0
Leads d e (Some s) (Some t) =
    (is_among d e.halted ≡ false)
    × (is_own d e.event ≡ true → IsKeptStep d e s t)
    × (is_own d e.event ≡ false → t ≡ s)
Leads d e (Some s) None =
    (is_among d e.halted ≡ true)
    × (is_own d e.event ≡ true)
    × (names d e.event ≡ true → e.answer ≡ Halted d)
Leads d e None (Some t) = ⊥
Leads d e None None =
    (is_among d e.halted ≡ false) × (names d e.event ≡ true → e.answer ≡ Refused refusal.Halted)

-- the entries of a trace, one after another
abbrev pub LeadsAll : DomainNo → List Entry → Option State → Option State → Type 0
LeadsAll d [] s t = t ≡ s
LeadsAll d (e ∷ trace) s t = (u : Option State) × Leads d e s u × LeadsAll d trace u t

-- All domains

-- the answer that is kept tells of a halt exactly where a domain was halted, and then the least
-- number of those that were
abbrev pub TellsHalts : Noted → List DomainNo → Type 0
TellsHalts (Halted d) numbers = IsLeast d numbers
TellsHalts Nothing numbers = numbers ≡ []
TellsHalts (Opened serial) numbers = numbers ≡ []
TellsHalts (Refused refusal) numbers = numbers ≡ []
TellsHalts (Entries n) numbers = numbers ≡ []

-- but for that a tick tells nothing
abbrev pub IsTickNoted : Noted → Type 0
IsTickNoted (Halted d) = Unit {0}
IsTickNoted Nothing = Unit {0}
IsTickNoted (Opened serial) = ⊥
IsTickNoted (Refused refusal) = ⊥
IsTickNoted (Entries n) = ⊥

-- what each entry says of itself, where these domains are configured
pub record IsEntryOf (configs : List DomainConfig) (e : Entry) : Type 0 where
  pub halts : TellsHalts e.answer e.halted
  pub tick : domain_of e.event ≡ None → IsTickNoted e.answer
  pub known : (d : DomainNo) → domain_of e.event ≡ Some d → is_configured d configs ≡ true
