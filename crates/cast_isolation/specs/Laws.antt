-- Isolation, said of two replays: a public law.
use Rattle.std.specs.Prelude.{◌≡◌, List, None, Result}
use Rattle.cast_types.specs.declared.names.SiteNo.{SiteNo}
use Rattle.cast_events.specs.declared.config.DomainConfig.{DomainConfig}
use Rattle.cast_events.specs.declared.event.Event.{Event}
use Rattle.cast_events.specs.declared.event.Taken.{Taken}
use Rattle.cast_events.specs.declared.log.Fault.{Fault}
use Rattle.cast_events.specs.declared.log.Given.{Given}
use Rattle.cast_isolation.specs.Replays.{IsServed, named_answers, own}

-- where two replays have a domain's configuration and its own events alike, and want of memory
-- halted it in neither, it gives the same in both, and the events that name it have the same
-- answers, whatever other domains there are and whatever happens to them
abbrev pub OwnEventsDecide : Type 0
OwnEventsDecide =
    (here : SiteNo) (config : DomainConfig) (events others : List Event)
    (answers told : List (Result Taken Fault)) (g h : Given) →
    own config.domain events ≡ own config.domain others →
    IsServed here events answers (record { config = config; halt = None }) g →
    IsServed here others told (record { config = config; halt = None }) h →
    (g ≡ h) × (named_answers config.domain events answers ≡ named_answers config.domain others told)
