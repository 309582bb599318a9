-- The sites of processes, and a view as one site has it.
use Rattle.std.specs.Prelude.{Bool, List, map, Option, Some, None, if◌then◌else◌}
use Rattle.std.specs.List.{list_any}
use Rattle.cast_types.specs.declared.names.SiteNo.{SiteNo}
use Rattle.cast_types.specs.declared.names.Proc.{Proc}
use Rattle.cast_types.specs.Names.{site_eq, site_cmp}
use Rattle.cast_types.specs.Sets.{set_of, without}
use Rattle.cast_message.specs.Membership.{Membership}

-- the sites of processes, in order
abbrev pub sites_of : List Proc → List SiteNo
sites_of procs = set_of site_cmp (map (λ p. p.site) procs)

abbrev pub other_sites : SiteNo → List Proc → List SiteNo
other_sites here procs = without site_eq here (sites_of procs)

abbrev pub is_at : SiteNo → Proc → Bool
is_at s p = site_eq p.site s

-- a view, where a member of it is at this site
abbrev pub local_view : SiteNo → Membership → Option Membership
local_view here members = if list_any (is_at here) members.list then Some members else None
