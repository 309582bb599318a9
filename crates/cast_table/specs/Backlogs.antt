-- How far a domain is behind with the messages that it keeps.
use Rattle.std.specs.Prelude.{Option, slice_get}
use Rattle.std.specs.Option.{option_map}
use Rattle.cast_types.specs.declared.names.DomainNo.{DomainNo}
use Rattle.cast_types.specs.declared.names.Key.{Key}
use Rattle.cast_events.specs.declared.backlog.Backlog.{Backlog}
use Rattle.cast_domain.specs.declared.domain.Domain.{Domain}
use Rattle.cast_domain.specs.Records.{number_of, quotas_of}
use Rattle.cast_domain.specs.Shared.{Part, part_of}
use Rattle.cast_table.specs.declared.table.Table.{Table}
use Rattle.cast_table.specs.Shows.{domain_at}

-- the key of the first of the kept messages, which stand in order of receipt
abbrev pub oldest_of : Part → Option Key
oldest_of part = option_map (λ r. r.key) (slice_get part.kept 0)

abbrev pub backlog_of : Domain → Part → Backlog
backlog_of d part =
    record { limit = (quotas_of d).held; oldest = oldest_of part; next = record { 0 = part.next } }

-- of the first domain of a number
abbrev pub backlog_at : DomainNo → Table → Option Backlog
backlog_at n table =
    option_map (λ d. backlog_of d (part_of (number_of d) table.shared)) (domain_at n table)
