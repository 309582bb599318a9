use Rattle.std.proofs.Common.{◌≡◌, drop}
use Rattle.cast_types.specs.Names.{site_cmp}
use Rattle.cast_types.specs.Sets.{with_items}
use Rattle.cast_view.specs.Sites.{sites_of}
use Rattle.cast_view.proofs.sites.sites_and.Given as goal

-- the sites so far with those that are left are all
abbrev pub invariant-loop-site : goal.invariant-loop-site
invariant-loop-site l = with_items site_cmp l.sites.items (drop l.site-index l.others) ≡ with_items site_cmp (sites_of l.processes) l.others
