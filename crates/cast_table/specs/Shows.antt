-- What a table shows of its domains, and that it is what a history says of them.
use Rattle.std.specs.Prelude.{◌≡◌, Bool, List, map, Option, Some}
use Rattle.std.specs.List.{find}
use Rattle.std.specs.Option.{option_map}
use Rattle.cast_types.specs.declared.names.DomainNo.{DomainNo}
use Rattle.cast_domain.specs.declared.domain.Domain.{Domain}
use Rattle.cast_domain.specs.declared.show.Shown.{Shown}
use Rattle.cast_domain.specs.declared.show.GroupShown.{GroupShown}
use Rattle.cast_domain.specs.Records.{number_of, is_halted}
use Rattle.cast_domain.specs.Shared.{part_of}
use Rattle.cast_domain.specs.Shows.{shown_of, group_shown, groups_shown}
use Rattle.cast_domain.specs.Fits.{Represents}
use Rattle.cast_rules.specs.State.{State, sessions, held_count}
use Rattle.cast_table.specs.declared.table.Table.{Table}
use Rattle.cast_table.specs.Tables.{domain_eq, domains_of}

-- the first domain of a number
abbrev pub domain_at : DomainNo → Table → Option Domain
domain_at n table = find (λ d. domain_eq (number_of d) n) (domains_of table)

-- what it shows of its records
abbrev pub shown_at : DomainNo → Table → Option Shown
shown_at n table =
    option_map (λ d. shown_of d (part_of (number_of d) table.shared)) (domain_at n table)

abbrev pub groups_at : DomainNo → Table → Option (List GroupShown)
groups_at n table = option_map groups_shown (domain_at n table)

-- what a history says of the same
abbrev pub shown_by : State → Bool → Shown
shown_by s halted =
    record {
      sessions = sessions s;
      held = held_count s;
      casts = s.casts;
      moment = s.moment;
      halted = halted;
    }

abbrev pub groups_by : State → List GroupShown
groups_by s = map (λ g. group_shown g (s.group g)) s.config.groups

-- whatever history the domain stands for, that is what is shown
abbrev pub ShowsHistory : DomainNo → Table → Option Shown → Type 0
ShowsHistory n table shown =
    (d : Domain) (s : State)
    → domain_at n table ≡ Some d → Represents d (part_of (number_of d) table.shared) s
    → shown ≡ Some (shown_by s (is_halted d))

abbrev pub ShowsGroups : DomainNo → Table → Option (List GroupShown) → Type 0
ShowsGroups n table groups =
    (d : Domain) (s : State)
    → domain_at n table ≡ Some d → Represents d (part_of (number_of d) table.shared) s
    → groups ≡ Some (groups_by s)
