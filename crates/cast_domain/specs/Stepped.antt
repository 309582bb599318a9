-- What a step of a domain is: the step of the history that its records stand for.
use Rattle.std.specs.Prelude.{◌≡◌, [], Result, Ok, All}
use Rattle.cast_types.specs.declared.refusal.Refusal.TheVariants.{Halted}
use Rattle.cast_stable.specs.Acks.{new_ledger}
use Rattle.cast_view.specs.Home.{first_home}
use Rattle.cast_domain.specs.declared.domain.Domain.{Domain}
use Rattle.cast_events.specs.declared.event.Event.{Event}
use Rattle.cast_events.specs.declared.event.Outs.{Outs}
use Rattle.cast_events.specs.declared.event.Taken.{Taken}
use Rattle.cast_events.specs.declared.event.Taken.TheVariants.{Refused}
use Rattle.cast_rules.specs.State.{State}
use Rattle.cast_rules.specs.Run.{IsStep}
use Rattle.cast_rules.specs.Rest.{RestsAt}
use Rattle.cast_domain.specs.Shared.{Part, part_of}
use Rattle.cast_events.specs.Outs.{outs_then}
use Rattle.cast_domain.specs.Records.{Records, number_of}
use Rattle.cast_domain.specs.declared.shared.Shared.{Shared}
use Rattle.cast_rules.specs.Lawful.{IsLawful}
use Rattle.cast_domain.specs.Fits.{Fits, Represents, with_domain}

-- whatever lawful history the old records stand for, the new ones stand for the one in which it
-- comes to rest
abbrev pub IsRested : Records → Records → Type 0
IsRested old new = (s : State) → Fits old s → IsLawful s → (t : State) × RestsAt s t × Fits new t

-- what the last step of a history sent, delivered and pushed
abbrev pub step_outs : State → Outs
step_outs s =
    record {
      frames = with_domain s.config.domain s.frames;
      halted = [];
      delivered = with_domain s.config.domain s.deliveries;
      pushed = with_domain s.config.domain s.pushes;
    }

-- from a history s the event leads with this answer to one for which the domain then stands, and
-- what that step sent, delivered and pushed is added
pub record IsStepOf (s : State) (e : Event) (answer : Taken) (new : Domain) (part : Part)
    (before : Outs) (after : Outs) : Type 0 where
  pub end : State
  pub steps : IsStep s e answer end
  pub means : Represents new part end
  pub outs : after ≡ outs_then before (step_outs end)

-- whatever history the domain stood for, with its part of what is shared before and after
abbrev pub IsStepped : Domain → Part → Event → Taken → Domain → Part → Outs → Outs → Type 0
IsStepped old part e answer new next before after =
    (s : State) → Represents old part s → IsStepOf s e answer new next before after

-- the same beside all that is shared
abbrev pub IsSteppedBeside : Domain → Shared → Outs → Event → Domain → Shared → Outs
    → Taken → Type 0
IsSteppedBeside old shared before e new later after answer =
    IsStepped old (part_of (number_of old) shared) e answer new (part_of (number_of old) later)
    before after

-- nothing is left of what a domain kept, but for what it shows: no message waits, nothing that
-- other sites received is noted, no order is known, and no home has a view, changes or a flush
pub record IsEmptied (d : Domain) : Type 0 where
  pub delay : d.delay ≡ record { gates = []; offered = []; rows = []; reached = [] }
  pub acks : d.acks ≡ new_ledger d.site
  pub orders : d.orders ≡ []
  pub homes : All (λ x. x.home ≡ first_home) d.groups.items

-- an event is refused since the domain is halted, and nothing changes: the domain, what is shared,
-- and what was sent
abbrev pub IsRefusedBeside : {E : Type 0} → Domain → Shared → Outs → Domain → Shared → Outs
    → Result Taken E → Type 0
IsRefusedBeside old shared before new later after result =
    (result ≡ Ok (Refused Halted)) × (new ≡ old) × (later ≡ shared) × (after ≡ before)
