-- Sites that acknowledge the messages of a source.
use Rattle.std.specs.declared.cmp.Ordering.{Ordering}
use Rattle.std.specs.Ordering.{ordering_then}
use Rattle.cast_types.specs.declared.names.SiteNo.{SiteNo}
use Rattle.cast_types.specs.declared.source.Source.{Source}
use Rattle.cast_types.specs.Names.{site_cmp}
use Rattle.cast_types.specs.Sources.{source_cmp}
use Rattle.cast_stable.specs.declared.witness.Witness.{Witness}

-- by source, and then by site
abbrev pub witness_cmp : Witness → Witness → Ordering
witness_cmp a b = ordering_then (source_cmp a.source b.source) (site_cmp a.site b.site)

abbrev pub witness : Source → SiteNo → Witness
witness s site = record { source = s; site = site }
