-- The domain that an event names, and none where it is an event of all domains.
use Rattle.std.specs.Prelude.{Option, Some, None}
use Rattle.cast_types.specs.declared.names.DomainNo.{DomainNo}
use Rattle.cast_events.specs.declared.event.Event.{Event}
use Rattle.cast_events.specs.declared.event.Event.TheVariants.{Open, Command, Gone, Frame}
use Rattle.cast_events.specs.declared.event.Event.TheVariants.{Suspect, Quota, Take, Tick}

abbrev pub domain_of : Event → Option DomainNo
domain_of (Open d) = Some d
domain_of (Command d k c) = Some d
domain_of (Gone d k) = Some d
domain_of (Frame d from f) = Some d
domain_of (Suspect d site) = Some d
domain_of (Quota d name value) = Some d
domain_of (Take d k most) = Some d
domain_of (Tick t) = None
