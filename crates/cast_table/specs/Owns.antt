-- Which domains are configured, and which events are a domain's own.
use Rattle.std.specs.Prelude.{Bool, true, false, not, ◌&&◌, List, [], ◌∷◌}
use Rattle.std.specs.Option.{option_map_or}
use Rattle.std.specs.List.{list_any, list_all}
use Rattle.cast_types.specs.declared.names.DomainNo.{DomainNo}
use Rattle.cast_types.specs.Names.{group_cmp}
use Rattle.cast_types.specs.Rising.{is_rising}
use Rattle.cast_events.specs.declared.config.DomainConfig.{DomainConfig}
use Rattle.cast_events.specs.declared.event.Event.{Event}
use Rattle.cast_events.specs.Events.{domain_of}
use Rattle.cast_table.specs.Tables.{domain_eq}

-- Configurations

-- a domain of this number is among the configured ones
abbrev pub is_configured : DomainNo → List DomainConfig → Bool
is_configured d configs = list_any (λ c. domain_eq c.domain d) configs

-- no two domains have one number
abbrev pub are_distinct : List DomainConfig → Bool
are_distinct [] = true
are_distinct (c ∷ configs) = not (is_configured c.domain configs) && are_distinct configs

-- each domain names its groups in rising order
abbrev pub have_rising_groups : List DomainConfig → Bool
have_rising_groups configs = list_all (λ c. is_rising group_cmp c.groups) configs

-- Events

-- an event names a domain
abbrev pub names : DomainNo → Event → Bool
names d event = option_map_or (λ n. domain_eq n d) (domain_of event) false

-- an event is a domain's own: it names the domain, or is a tick
abbrev pub is_own : DomainNo → Event → Bool
is_own d event = option_map_or (λ n. domain_eq n d) (domain_of event) true
