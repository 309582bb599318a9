-- What a post hands on that asks to show domains alone.
use Rattle.std.specs.Prelude.{ℕ, List, map}
use Rattle.cast_types.specs.declared.names.DomainNo.{DomainNo}
use Rattle.cast_events.specs.declared.asked.Asked.TheVariants.{Show}
use Rattle.cast_events.specs.declared.asked.Raw.{Raw}

-- it is asked to show a domain, under a number
abbrev pub show_of : ℕ × DomainNo → Raw
show_of asked = record { number = asked.0; asked = Show asked.1 }

abbrev pub shows_of : List (ℕ × DomainNo) → List Raw
shows_of asked = map show_of asked
